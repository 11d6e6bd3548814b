-- What is behind the first of them is nested as deep as they at most.
use Rattle.std.proofs.Common.{ap, arith}
use Rattle.fp_ber.specs.Tree.{nesting_of_all}
use Rattle.cases_calls.proofs.messages.elements.+texts.Goals as goal

pub push_elements-elements-preserved : goal.push_elements-elements-preserved
push_elements-elements-preserved t c = omega (arith, c.elements.invariant, ap nesting_of_all c.in-Some.ensures)
