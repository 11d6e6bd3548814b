-- Calls after one another leave the link as it is.
use Rattle.std.proofs.Common.{◌∙◌, refl}
use Rattle.fp_network.specs.declared.node.Node.{Node}
use Rattle.fp_network.specs.Node.{Keeps, LeavesLink}

pub leaves_same : (node : Node) → LeavesLink node node
leaves_same node = record { for_link = refl; from_link = refl; names = refl; draining = refl; count = refl }

pub leaves_more : (old mid new : Node) → LeavesLink old mid → LeavesLink mid new → LeavesLink old new
leaves_more old mid new first then = record {
  for_link = then.for_link ∙ first.for_link;
  from_link = then.from_link ∙ first.from_link;
  names = then.names ∙ first.names;
  draining = then.draining ∙ first.draining;
  count = then.count ∙ first.count;
}

-- what comes from the link and what a node is set up with stay the same
pub keeps_left : (old new : Node) → LeavesLink old new → Keeps old new
keeps_left old new leaves = record {
  from_link = leaves.from_link;
  names = leaves.names;
  draining = leaves.draining;
  count = leaves.count;
}

pub keeps_more : (old mid new : Node) → Keeps old mid → Keeps mid new → Keeps old new
keeps_more old mid new first then = record {
  from_link = then.from_link ∙ first.from_link;
  names = then.names ∙ first.names;
  draining = then.draining ∙ first.draining;
  count = then.count ∙ first.count;
}
