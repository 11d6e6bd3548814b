use Rattle.std.proofs.Common.{◌∙◌}
use Rattle.fp_linkio.proofs.Sent.{sending_more}
use Rattle.fp_linkio.proofs.sending.send_loop.Goals as goal

pub loop-turn-preserved : goal.loop-turn-preserved
loop-turn-preserved g c = record {
  sending = sending_more _ _ _ _ _ _ _ _ c.in-Some.parcel c.loop-turn.invariant.sending c.in-Some.ensures c.in-Ok.ensures.written c.sent.ensures.call;
  fine = c.in-Ok.ensures.failure ∙ c.loop-turn.invariant.fine;
}
