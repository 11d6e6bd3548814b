-- The components from an index on are put, and each can be sent.
use Rattle.std.proofs.Common.{◌≡◌, ◌++◌, map, drop}
use Rattle.fp_ber.specs.Canon.{canon_of_all}
use Rattle.fp_q773.specs.Written.{component_trees}
use Rattle.fp_reply.specs.Part.{AreComponents}
use Rattle.fp_reply.specs.Reply.{component_value}
use Rattle.fp_reply.proofs.component.write_all.Given as goal

abbrev pub invariant-components : goal.invariant-components
invariant-components l = record {
  exact : l.out ≡ canon_of_all (component_trees (map component_value (drop l.index l.components))) ++ l.initial.out;
  sound : AreComponents (drop l.index l.components);
}
