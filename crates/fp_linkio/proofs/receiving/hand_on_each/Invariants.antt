use Rattle.std.proofs.Common.{length}
use Rattle.fp_linkio.proofs.HandedOn.{Handing}
use Rattle.fp_linkio.proofs.receiving.hand_on_each.Given as goal

abbrev pub invariant-loop-frame : goal.invariant-loop-frame
invariant-loop-frame g l = Handing (g.I.Inbox.messages l.fn.inbox) (g.I.Inbox.messages l.inbox) l.fn.frames l.frames

abbrev pub decreases-loop-frame : goal.decreases-loop-frame
decreases-loop-frame g l = length l.frames
