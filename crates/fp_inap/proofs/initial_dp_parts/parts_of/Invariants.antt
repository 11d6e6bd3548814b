-- Each part and the members left that have its number are all that have it.
use Rattle.std.proofs.Common.{◌≡◌, ◌++◌}
use Rattle.fp_ber.specs.Lent.{lent_trees}
use Rattle.fp_ber.specs.Tree.{how_many}
use Rattle.fp_inap.specs.Members.{with_number}
use Rattle.fp_inap.specs.View.{found_in}
use Rattle.fp_inap.proofs.initial_dp_parts.parts_of.Given as goal

abbrev pub invariant-members : goal.invariant-members
invariant-members l = record {
  key : found_in l.parts.key ++ with_number 0 (lent_trees l.left) ≡ with_number 0 (lent_trees l.members);
  called : found_in l.parts.called ++ with_number 2 (lent_trees l.left) ≡ with_number 2 (lent_trees l.members);
  calling : found_in l.parts.calling ++ with_number 3 (lent_trees l.left) ≡ with_number 3 (lent_trees l.members);
  category : found_in l.parts.category ++ with_number 5 (lent_trees l.left) ≡ with_number 5 (lent_trees l.members);
  event : found_in l.parts.event ++ with_number 28 (lent_trees l.left) ≡ with_number 28 (lent_trees l.members);
}

abbrev pub decreases-members : goal.decreases-members
decreases-members l = how_many (lent_trees l.left)
