-- Three elements are no Reject.
use Rattle.std.proofs.Common.{rules, tests}
use Rattle.fp_ber.specs.Lent.{lent_trees}
use Rattle.fp_q773.proofs.Fronts.{three_are_not_two}
use Rattle.fp_q773.proofs.reject.Reject.read.Goals as goal

pub returns-then-not-is_empty-clause-none : goal.returns-then-not-is_empty-clause-none
returns-then-not-is_empty-clause-none c = λ identifier problem h.
    three_are_not_two _ _ _ _ h.0 h.1 (lent_trees c.in-Some-split_first.last.rest) c.in-Some.ensures c.in-Some-split_first.ensures (search (rules, tests)) h.2
