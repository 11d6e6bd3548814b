use Rattle.fp_steps.proofs.Names.{base, take, ◌≡◌}
use Rattle.fp_steps.proofs.RunsSoFar.{SoFar}
use Rattle.fp_steps.proofs.whole_run.make_all.Given as goal

-- what the steps so far have done
abbrev pub invariant-loop-step : goal.invariant-loop-step
invariant-loop-step l = (base l.run ≡ base l.fn.run) × SoFar l.tables l.contexts (take l.step-index l.steps) l.outputs.items l.run
