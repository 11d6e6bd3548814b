-- One turn fewer is left.
use Rattle.fp_hub.proofs.workers.abandon_all.Given as goal

abbrev pub decreases-loop-left : goal.decreases-loop-left
decreases-loop-left l = l.work.len
