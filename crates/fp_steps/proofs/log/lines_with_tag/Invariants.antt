use Rattle.fp_steps.proofs.Names.{length, take}
use Rattle.fp_steps.proofs.LogSoFar.{Logging}
use Rattle.fp_steps.proofs.log.lines_with_tag.Given as goal

-- the log so far
abbrev pub invariant-loop-step : goal.invariant-loop-step
invariant-loop-step l = Logging l.link l.tag (take (length l.yielded) l.steps) (take (length l.yielded) l.outputs) l.log.lines.items l.log.named l.log.turns.items l.log.sending
