use Rattle.fp_steps.proofs.Names.{vec_len}
use Rattle.fp_steps.proofs.engine.Engine.abandon.Given as goal

abbrev pub decreases-loop-turn : goal.decreases-loop-turn
decreases-loop-turn l = vec_len l.turns
