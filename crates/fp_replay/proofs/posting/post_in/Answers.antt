use Rattle.std.proofs.Common.{◌∷◌, ap}
use Rattle.std.proofs.lemmas.Result.{err_from_is_err_and}
use Rattle.fp_replay.proofs.Cutting.{four_joined}
use Rattle.fp_replay.proofs.Letters.{post_only}
use Rattle.fp_replay.proofs.posting.post_in.Goals as goal

pub returns-in_default : goal.returns-in_default
returns-in_default c = record { found = tt; only = post_only _ _ c.in_default.ensures.only (λ t m s a i fits none. absurd none) }

pub returns-in_default-table_in : goal.returns-in_default-table_in
returns-in_default-table_in c = record {
  found = tt;
  only = post_only _ _ c.in-Some.ensures.only (λ t m s a i fits parts. absurd (cc (c.in_default-table_in.ensures.only t i parts.1)));
}

pub returns-in_err-moment : goal.returns-in_err-moment
returns-in_err-moment c =
    let passed = err_from_is_err_and c.from_residual.result c.from_residual.ensures.1 in
    rw (passed.1, passed.2)
    (record {
      found = tt;
      only = post_only _ _ c.in-Some.ensures.only (λ t m s a i fits parts. c.in_err-moment.ensures.only m s a fits parts.0 parts.2 parts.3);
    })

pub returns : goal.returns
returns c = record {
  found =
      let table = c.in-Some-table_in.ensures.found in
      let found = c.in_ok-moment.ensures.found in
      let text = four_joined c.args.fields.now _ _ _ _ _ _ _ _ c.in-Some.ensures.found found.1 table.1 found.2 found.3 in
      ((table.0, found.0), ap (λ fields. 80 ∷ fields) text);
  only = post_only _ _ c.in-Some.ensures.only (λ t m s a i fits parts.
      let table = c.in-Some-table_in.ensures.only t i parts.1 in
      let same = c.in_ok-moment.ensures.only m s a fits parts.0 parts.2 parts.3 in
      cc (table, same.0, same.1, same.2));
}
