-- The elements that are left are nested as deep as all at most, and get fewer.
use Rattle.std.proofs.Common.{◌+◌, ◌*◌, ◌≤◌}
use Rattle.fp_ber.specs.Lent.{lent_tree, lent_trees}
use Rattle.fp_ber.specs.Tree.{nesting, nesting_of_all, how_many}
use Rattle.cases_calls.proofs.messages.elements.+texts.Given as goal

abbrev pub decreases-push_element : goal.decreases-push_element
decreases-push_element l = 2 * nesting (lent_tree l.element.now)

abbrev pub decreases-push_elements : goal.decreases-push_elements
decreases-push_elements l = 2 * nesting_of_all (lent_trees l.elements.now) + 1

abbrev pub invariant-push_elements-elements : goal.invariant-push_elements-elements
invariant-push_elements-elements l = nesting_of_all (lent_trees l.left) ≤ nesting_of_all (lent_trees l.elements)

abbrev pub decreases-push_elements-elements : goal.decreases-push_elements-elements
decreases-push_elements-elements l = how_many (lent_trees l.left)
