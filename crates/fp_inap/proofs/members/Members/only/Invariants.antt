-- What was found and what is left has the number.
use Rattle.std.proofs.Common.{◌≡◌, ◌++◌}
use Rattle.fp_ber.specs.Lent.{lent_trees}
use Rattle.fp_ber.specs.Tree.{how_many}
use Rattle.fp_inap.specs.Members.{with_number}
use Rattle.fp_inap.specs.View.{found_in}
use Rattle.fp_inap.proofs.members.Members.only.Given as goal

abbrev pub invariant-members : goal.invariant-members
invariant-members l =
    found_in l.found ++ with_number l.number (lent_trees l.left) ≡ with_number l.number (lent_trees l.self.elements)

abbrev pub decreases-members : goal.decreases-members
decreases-members l = how_many (lent_trees l.left)
