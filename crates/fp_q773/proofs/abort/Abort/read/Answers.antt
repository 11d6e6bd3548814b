-- Too much stands behind the identifier.
use Rattle.std.proofs.Common.{rules, tests, subst}
use Rattle.fp_ber.specs.Lent.{lent_trees}
use Rattle.fp_q773.specs.Grammar.{IsReason}
use Rattle.fp_q773.proofs.Fronts.{rest_same, two_are_no_reason}
use Rattle.fp_q773.proofs.abort.Abort.read.Goals as goal

pub returns-then-not-is_empty-clause-none : goal.returns-then-not-is_empty-clause-none
returns-then-not-is_empty-clause-none c = λ destination value h.
    let reason = subst (λ ts. IsReason ts value) (rest_same _ _ _ c.in-Some.ensures.some.0 _ h.0 h.1.0) h.2 in
    two_are_no_reason _ _ (lent_trees c.in-Some-split_first.last.rest) value c.in-Some-split_first.ensures (search (rules, tests)) reason
