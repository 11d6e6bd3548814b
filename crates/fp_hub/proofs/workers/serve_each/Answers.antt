use Rattle.std.proofs.Common.{arith}
use Rattle.fp_hub.specs.Holds.{turn_in}
use Rattle.fp_hub.proofs.Serving.{serving_more}
use Rattle.fp_hub.proofs.workers.serve_each.Goals as goal

pub loop-count-preserved : goal.loop-count-preserved
loop-count-preserved g c =
    let test = c.loop-count-test.true in
    let long = c.args.work.now.ok.0 in
    serving_more turn_in _ _ _ _ _ _ _ c.loop-count.invariant (omega (arith, test, long)) c.in-Some.ensures.items c.push_back_reserved.ensures.items c.serve_one-served.ensures
