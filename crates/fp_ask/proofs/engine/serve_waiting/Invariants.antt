use Rattle.fp_ask.specs.proof_only.Serving.{Fit, KeepsEnd, SameCounts, jobs_of}
use Rattle.std.proofs.Common.{length}
use Rattle.fp_ask.proofs.engine.serve_waiting.Given as goal

abbrev pub invariant-loop-turn : goal.invariant-loop-turn
invariant-loop-turn l = record {
  fit : Fit l.book;
  ends : KeepsEnd l.fn.book l.book;
  counts : SameCounts l.fn.book l.book;
}

abbrev pub decreases-loop-turn : goal.decreases-loop-turn
decreases-loop-turn l = length (jobs_of l.book)
