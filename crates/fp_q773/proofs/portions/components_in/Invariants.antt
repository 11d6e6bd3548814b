-- With what the others are, the components so far are what all elements are.
use Rattle.std.proofs.Common.{List, ◌++◌, All, map}
use Rattle.fp_ber.specs.Lent.{lent_trees}
use Rattle.fp_ber.specs.Tree.{Trees, how_many}
use Rattle.fp_q773.specs.declared.component.Component.{Component}
use Rattle.fp_q773.specs.Value.{ComponentValue}
use Rattle.fp_q773.specs.View.{component_of}
use Rattle.fp_q773.specs.Grammar.{AreComponents}
use Rattle.fp_q773.specs.Named.{HasNamedProblem}
use Rattle.fp_q773.proofs.portions.components_in.Given as goal

-- and their problems go by their names
pub record SoFar (ts left : Trees) (components : List Component) : Type 0 where
  pub found : (rest : List ComponentValue) → AreComponents left rest → AreComponents ts (map component_of components ++ rest)
  pub named : All HasNamedProblem components

abbrev pub invariant-members : goal.invariant-members
invariant-members l = SoFar (lent_trees l.members) (lent_trees l.left) l.components.items

abbrev pub decreases-members : goal.decreases-members
decreases-members l = how_many (lent_trees l.left)
