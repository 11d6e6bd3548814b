-- The elements that are left are nested as deep as all at most, and get fewer.
use Rattle.std.proofs.Common.{◌+◌, ◌*◌, ◌≤◌}
use Rattle.fp_ber.specs.Lent.{lent_tree, lent_trees}
use Rattle.fp_ber.specs.Tree.{nesting, nesting_of_all, how_many}
use Rattle.cases_calls.proofs.ber.trees.+lent.Given as goal

abbrev pub decreases-push_lent : goal.decreases-push_lent
decreases-push_lent l = 2 * nesting (lent_tree l.element.now)

abbrev pub decreases-push_all_lent : goal.decreases-push_all_lent
decreases-push_all_lent l = 2 * nesting_of_all (lent_trees l.elements.now) + 1

abbrev pub invariant-push_all_lent-elements : goal.invariant-push_all_lent-elements
invariant-push_all_lent-elements l = nesting_of_all (lent_trees l.left) ≤ nesting_of_all (lent_trees l.elements)

abbrev pub decreases-push_all_lent-elements : goal.decreases-push_all_lent-elements
decreases-push_all_lent-elements l = how_many (lent_trees l.left)
