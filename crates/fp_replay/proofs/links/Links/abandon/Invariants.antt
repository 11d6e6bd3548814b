use Rattle.std.specs.Prelude.{vec_len}
use Rattle.fp_replay.proofs.links.Links.abandon.Given as goal

abbrev pub decreases-loop-run : goal.decreases-loop-run
decreases-loop-run l = vec_len l.runs
