-- A node that is constructed has elements.
use Rattle.fp_ber.specs.Nodes.{heads_in, trees_in}
use Rattle.fp_ber.proofs.Heads.{constructed_node, own_constructed}
use Rattle.fp_ber.proofs.element_ref.ElementRef.octets.Goals as goal

pub returns-then-node : goal.returns-then-node
returns-then-node c =
    let node = c.in-Node.node.now in
    let below = heads_in c.in-Node.below.now in
    rw c.in-Node.is (trees_in below, own_constructed _ _ _ _ (constructed_node node below c.if-node.true))
