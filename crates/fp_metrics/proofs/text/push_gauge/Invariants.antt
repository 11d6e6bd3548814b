use Rattle.std.proofs.Common.{◌≡◌, ◌++◌, string_bytes}
use Rattle.std.proofs.Math.ListN.{drop}
use Rattle.fp_metrics.specs.Text.{gauge_line, each}
use Rattle.fp_metrics.proofs.text.push_gauge.Given as goal

-- with the texts of those that are left, the text is that of all
abbrev pub invariant-loop-link : goal.invariant-loop-link
invariant-loop-link l =
    string_bytes l.out ++ each (gauge_line l.gauge) (drop l.link-index l.links) ≡ string_bytes l.initial.out ++ each (gauge_line l.gauge) l.links
