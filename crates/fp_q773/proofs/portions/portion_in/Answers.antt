-- Two elements are no component portion.
use Rattle.std.proofs.Common.{rules, tests}
use Rattle.fp_ber.specs.Lent.{lent_trees}
use Rattle.fp_q773.proofs.Parts.{two_are_no_portion}
use Rattle.fp_q773.proofs.portions.portion_in.Goals as goal

pub returns-then-not-is_empty-clause-fault : goal.returns-then-not-is_empty-clause-fault
returns-then-not-is_empty-clause-fault c = two_are_no_portion _ _ (lent_trees c.in-Some.portion.rest) c.in-Some.ensures (search (rules, tests))
