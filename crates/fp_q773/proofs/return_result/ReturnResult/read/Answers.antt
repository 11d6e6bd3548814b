-- What stands first is no identifier, or too much stands behind it.
use Rattle.std.proofs.Common.{rules, tests, subst}
use Rattle.fp_ber.specs.Lent.{lent_trees}
use Rattle.fp_q773.specs.Grammar.{IsReturned}
use Rattle.fp_q773.proofs.Fronts.{no_identifier, rest_same, two_are_not_returned}
use Rattle.fp_q773.proofs.return_result.ReturnResult.read.Goals as goal

pub returns-in_default-identifier_of-clause-none : goal.returns-in_default-identifier_of-clause-none
returns-in_default-identifier_of-clause-none c = λ identifier value h.
    no_identifier _ _ _ c.in-Some.ensures c.in_default-identifier_of.ensures h.0 h.1 identifier h.2 h.3

pub returns-then-not-is_empty-clause-none : goal.returns-then-not-is_empty-clause-none
returns-then-not-is_empty-clause-none c = λ identifier value h.
    let returned = subst (λ ts. IsReturned ts value) (rest_same _ _ _ c.in-Some.ensures h.0 h.1 h.2) h.4 in
    two_are_not_returned _ _ (lent_trees c.in-Some-split_first.last.rest) value c.in-Some-split_first.ensures (search (rules, tests)) returned
