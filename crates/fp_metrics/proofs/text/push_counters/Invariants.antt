use Rattle.std.proofs.Common.{◌≡◌, ◌++◌, string_bytes}
use Rattle.std.proofs.Math.ListN.{drop}
use Rattle.fp_counters.specs.Counter.{all_counters}
use Rattle.fp_metrics.specs.Text.{block, each}
use Rattle.fp_metrics.proofs.text.push_counters.Given as goal

-- with the texts of those that are left, the text is that of all
abbrev pub invariant-loop-counter : goal.invariant-loop-counter
invariant-loop-counter l =
    string_bytes l.out ++ each (block l.links) (drop l.counter-index l.counter-items)
    ≡ string_bytes l.initial.out ++ each (block l.links) all_counters
