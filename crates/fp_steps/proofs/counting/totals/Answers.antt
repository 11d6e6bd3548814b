use Rattle.fp_steps.proofs.Names.{◌∙◌}
use Rattle.fp_steps.proofs.OutputTotals.{exact, so_far_all, so_far_next, so_far_none}
use Rattle.fp_steps.proofs.counting.totals.Goals as goal

pub loop-output-init : goal.loop-output-init
loop-output-init c = so_far_none

pub loop-output-preserved : goal.loop-output-preserved
loop-output-preserved c =
    so_far_next c.args.outputs.now c.loop-output.output-index c.output-item.result c.with_output-totals.result c.local_after-out.result
    c.loop-output.invariant c.loop-output-test.true c.output-item.is c.with_output-totals.ensures c.local_after-out.ensures

pub returns : goal.returns
returns c =
    let all = so_far_all c.args.outputs.now c.loop-output.output-index c.loop-output.invariant c.loop-output-test.false in
    record { of_runs = λ tables contexts base steps run. all ∙ exact c.args.outputs.now run.adds_up.few; of_all = all }
