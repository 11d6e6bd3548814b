use Rattle.std.proofs.Common.{◌≡◌, ◌++◌, string_bytes}
use Rattle.std.proofs.Math.ListN.{drop}
use Rattle.fp_metrics.specs.Gauge.{all_gauges}
use Rattle.fp_metrics.specs.Text.{each, gauge_block}
use Rattle.fp_metrics.proofs.text.push_gauges.Given as goal

-- with the texts of those that are left, the text is that of all
abbrev pub invariant-loop-gauge : goal.invariant-loop-gauge
invariant-loop-gauge l =
    string_bytes l.out ++ each (gauge_block l.links) (drop l.gauge-index l.gauge-items)
    ≡ string_bytes l.initial.out ++ each (gauge_block l.links) all_gauges
