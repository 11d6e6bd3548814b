-- Three elements are no code with a parameter.
use Rattle.std.proofs.Common.{rules, tests}
use Rattle.fp_ber.specs.Lent.{lent_trees}
use Rattle.fp_q773.proofs.Fronts.{three_are_not_coded}
use Rattle.fp_q773.proofs.coded.Coded.read.Goals as goal

pub returns-then-not-is_empty-clause-none : goal.returns-then-not-is_empty-clause-none
returns-then-not-is_empty-clause-none c = λ code parameter h.
    three_are_not_coded _ _ _ _ (lent_trees c.in-Some-split_first.last.rest) code parameter c.in-Some.ensures c.in-Some-split_first.ensures (search (rules, tests)) h
