use Rattle.std.proofs.Common.{◌≡◌, ◌++◌, string_bytes}
use Rattle.std.proofs.Math.ListN.{drop}
use Rattle.fp_metrics.specs.Number.{number_counters, number_line}
use Rattle.fp_metrics.specs.Text.{each}
use Rattle.fp_metrics.proofs.number.push_number_lines.Given as goal

-- with the texts of those that are left, the text is that of all
abbrev pub invariant-loop-counter : goal.invariant-loop-counter
invariant-loop-counter l =
    string_bytes l.out ++ each (number_line l.called l.counters) (drop l.counter-index l.counter-items)
    ≡ string_bytes l.initial.out ++ each (number_line l.called l.counters) number_counters
