use Rattle.std.proofs.Common.{◌≡◌, ◌++◌, string_bytes}
use Rattle.std.proofs.Math.ListN.{drop}
use Rattle.fp_metrics.specs.Text.{counter_line, each}
use Rattle.fp_metrics.proofs.text.push_counter.Given as goal

-- with the texts of those that are left, the text is that of all
abbrev pub invariant-loop-link : goal.invariant-loop-link
invariant-loop-link l =
    string_bytes l.out ++ each (counter_line l.counter) (drop l.link-index l.links) ≡ string_bytes l.initial.out ++ each (counter_line l.counter) l.links
