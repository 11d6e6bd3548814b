use Rattle.std.proofs.Common.{◌≡◌}
use Rattle.std.proofs.Math.ListN.{take}
use Rattle.fp_page.specs.Sent.{sum_of}
use Rattle.fp_page.proofs.names.sum.Given as goal

-- the sum is that of the counters so far
abbrev pub invariant-loop-counter : goal.invariant-loop-counter
invariant-loop-counter l = l.sum ≡ sum_of l.counters (take l.counter-index l.of)
