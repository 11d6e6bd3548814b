use Rattle.std.proofs.Common.{length}
use Rattle.fp_network.proofs.Following.{Followed}
use Rattle.fp_network.proofs.node.Node.received_from_link.Given as goal

abbrev pub invariant-loop-frame : goal.invariant-loop-frame
invariant-loop-frame l = Followed l.fn.self l.octets l.self

abbrev pub decreases-loop-frame : goal.decreases-loop-frame
decreases-loop-frame l = length l.self.from_link
