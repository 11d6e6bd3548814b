use Rattle.std.proofs.Common.{◌∷◌, ap}
use Rattle.std.proofs.lemmas.Result.{err_from_is_err_and}
use Rattle.fp_replay.proofs.Cutting.{three_joined}
use Rattle.fp_replay.proofs.Letters.{lost_only}
use Rattle.fp_replay.proofs.posting.lost_in.Goals as goal

pub returns-in_default : goal.returns-in_default
returns-in_default c = record { found = tt; only = lost_only _ _ c.in_default.ensures.only (λ m s a fits none. absurd none) }

pub returns-in_err-moment : goal.returns-in_err-moment
returns-in_err-moment c =
    let passed = err_from_is_err_and c.from_residual.result c.from_residual.ensures.1 in
    rw (passed.1, passed.2)
    (record {
      found = tt;
      only = lost_only _ _ c.in-Some.ensures.only (λ m s a fits parts. c.in_err-moment.ensures.only m s a fits parts.0 parts.1 parts.2);
    })

pub returns : goal.returns
returns c = record {
  found =
      let found = c.in_ok-moment.ensures.found in
      let text = three_joined c.args.fields.now _ _ _ _ _ _ c.in-Some.ensures.found found.1 found.2 found.3 in
      (found.0, ap (λ fields. 76 ∷ fields) text);
  only = lost_only _ _ c.in-Some.ensures.only (λ m s a fits parts.
      let same = c.in_ok-moment.ensures.only m s a fits parts.0 parts.1 parts.2 in
      cc (same.0, same.1, same.2));
}
