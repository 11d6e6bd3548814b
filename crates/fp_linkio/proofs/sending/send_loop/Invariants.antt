use Rattle.std.proofs.Common.{◌≡◌}
use Rattle.fp_linkio.proofs.Sent.{Sending}
use Rattle.fp_linkio.proofs.sending.send_loop.Given as goal

abbrev pub invariant-loop-turn : goal.invariant-loop-turn
invariant-loop-turn g l = record {
  sending : Sending l._turn (g.W.LinkWrite.contents l.fn.writer) (g.W.LinkWrite.contents l.writer)
      (g.O.Outlet.calls l.fn.outlet) (g.O.Outlet.calls l.outlet);
  fine : g.W.LinkWrite.failures l.writer ≡ g.W.LinkWrite.failures l.fn.writer;
}
