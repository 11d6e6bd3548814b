-- The components from a place on are written, and each is read as it was.
use Rattle.std.proofs.Common.{◌≡◌, ◌++◌, All, map, drop}
use Rattle.fp_ber.specs.Canon.{canon_of_all}
use Rattle.fp_q773.specs.View.{component_of}
use Rattle.fp_q773.specs.Written.{component_trees, IsReadBack}
use Rattle.fp_q773.proofs.portions.write_components.Given as goal

abbrev pub invariant-components : goal.invariant-components
invariant-components l = record {
  exact : l.out ≡ canon_of_all (component_trees (map component_of (drop l.index l.components))) ++ l.initial.out;
  found : All IsReadBack (map component_of (drop l.index l.components));
}
