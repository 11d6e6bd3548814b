-- The copies so far and what is left are all elements.
use Rattle.std.proofs.Common.{◌≡◌, ◌+◌, ◌*◌, ◌≤◌, List}
use Rattle.fp_ber.specs.declared.element.Element.{Element}
use Rattle.fp_ber.specs.Lent.{lent_tree, lent_trees}
use Rattle.fp_ber.specs.Tree.{Trees, nesting, nesting_of_all, how_many}
use Rattle.fp_ber.specs.View.{forest_of}
use Rattle.fp_ber.proofs.Forests.{trees_and}
use Rattle.fp_ber.proofs.lent_copy.+lent.Given as goal

-- which are nested as deep as they at most
pub record Copied (all left : Trees) (copies : List Element) : Type 0 where
  pub whole : all ≡ trees_and (forest_of copies) left
  pub nested : nesting_of_all left ≤ nesting_of_all all

abbrev pub decreases-copy_of : goal.decreases-copy_of
decreases-copy_of l = 2 * nesting (lent_tree l.element.now)

abbrev pub decreases-copy_all : goal.decreases-copy_all
decreases-copy_all l = 2 * nesting_of_all (lent_trees l.elements.now) + 1

abbrev pub invariant-copy_all-elements : goal.invariant-copy_all-elements
invariant-copy_all-elements l = Copied (lent_trees l.elements) (lent_trees l.left) l.copies.items

abbrev pub decreases-copy_all-elements : goal.decreases-copy_all-elements
decreases-copy_all-elements l = how_many (lent_trees l.left)
