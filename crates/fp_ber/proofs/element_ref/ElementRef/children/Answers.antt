-- A node that isn't constructed has octets.
use Rattle.std.proofs.Common.{rules, tests}
use Rattle.fp_ber.specs.Nodes.{heads_in}
use Rattle.fp_ber.proofs.Heads.{primitive_node, own_primitive}
use Rattle.fp_ber.proofs.element_ref.ElementRef.children.Goals as goal

pub returns-then-not-node : goal.returns-then-not-node
returns-then-not-node c =
    let node = c.in-Node.node.now in
    rw c.in-Node.is (node.octets.now, own_primitive _ _ _ _ (primitive_node node (heads_in c.in-Node.below.now) (search (rules, tests))))
