-- Where no length stands no identifier does.
use Rattle.std.proofs.Common.{◌≡◌, ◌++◌, length, inl, subst}
use Rattle.fp_ber.specs.Spelling.{BeginsLength}
use Rattle.fp_q773.proofs.ids.identifier_at.Goals as goal

pub returns-in_default-length_at-clause-none : goal.returns-in_default-length_at-clause-none
returns-in_default-length_at-clause-none c = λ identifier rest h.
    let same : h.0 ≡ c.in-Some.body.now = cc (h.1, c.in-Some.ensures) in
    c.in_default-length_at.ensures.none (identifier ++ rest) (inl (length identifier, subst (λ o. BeginsLength o (length identifier) (identifier ++ rest)) same h.2))
