-- All have tags of the context class if those left have.
use Rattle.fp_ber.specs.Lent.{lent_trees}
use Rattle.fp_ber.specs.Tree.{how_many}
use Rattle.fp_inap.specs.Members.{AllContext}
use Rattle.fp_inap.proofs.members.are_context.Given as goal

abbrev pub invariant-members : goal.invariant-members
invariant-members l = record {
  all : AllContext (lent_trees l.left) → AllContext (lent_trees l.elements);
  rest : AllContext (lent_trees l.elements) → AllContext (lent_trees l.left);
}

abbrev pub decreases-members : goal.decreases-members
decreases-members l = how_many (lent_trees l.left)
