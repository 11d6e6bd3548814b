use Rattle.fp_linkio.proofs.HandedOn.{handing_more}
use Rattle.fp_linkio.proofs.receiving.hand_on_each.Goals as goal

pub loop-frame-preserved : goal.loop-frame-preserved
loop-frame-preserved g c =
    let next = rw c.in-Ok-Some.field-0-is at c.in-Ok-Some.ensures.next in
    handing_more _ _ _ _ _ _ _ c.loop-frame.invariant next c.frame.ensures
