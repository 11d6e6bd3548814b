use Rattle.fp_steps.proofs.Names.{take}
use Rattle.fp_steps.proofs.OutputTotals.{CountedSoFar}
use Rattle.fp_steps.proofs.counting.totals.Given as goal

-- what was counted so far
abbrev pub invariant-loop-output : goal.invariant-loop-output
invariant-loop-output l = CountedSoFar (take l.output-index l.outputs) l.totals l.out
