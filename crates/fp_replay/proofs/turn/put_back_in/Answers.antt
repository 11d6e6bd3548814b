use Rattle.std.proofs.Common.{◌∷◌, ap}
use Rattle.fp_replay.proofs.Letters.{put_back_only}
use Rattle.fp_replay.proofs.turn.put_back_in.Goals as goal

pub returns-in_default : goal.returns-in_default
returns-in_default c = record { found = tt; only = put_back_only _ _ (λ birth position l p e. absurd (c.in_default.ensures.only birth position l p e)) }

pub returns : goal.returns
returns c = record {
  found = let found = c.in-Some.ensures.found in ((found.0, found.1), ap (λ fields. 66 ∷ fields) found.2);
  only = put_back_only _ _ (λ birth position l p e. let same = c.in-Some.ensures.only birth position l p e in cc (same.0, same.1));
}
