use Rattle.std.proofs.Common.{◌∷◌, ap}
use Rattle.fp_replay.proofs.Letters.{pick_only}
use Rattle.fp_replay.proofs.parcel.pick_in.Goals as goal

pub returns-in_default : goal.returns-in_default
returns-in_default c = record { found = tt; only = pick_only _ _ (λ birth fits e. absurd (cc (c.in_default.ensures.only birth fits e))) }

pub returns : goal.returns
returns c = record {
  found = let found = c.in-Some.ensures.found in (found.0, ap (λ fields. 81 ∷ fields) found.1);
  only = pick_only _ _ (λ birth fits e. let same = c.in-Some.ensures.only birth fits e in cc same);
}
