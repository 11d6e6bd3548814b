use Rattle.std.proofs.Common.{◌++◌, ◌∙◌, ap, string_bytes}
use Rattle.fp_counters.specs.Histogram.{sum_in}
use Rattle.fp_metrics.specs.Times.{bucket_lines, sum_and_count, times_heading, total_below}
use Rattle.fp_metrics.proofs.Parts.{joined}
use Rattle.fp_metrics.proofs.times.push_times.Goals as goal

pub returns : goal.returns
returns c =
    let histogram = c.args.histogram.now in
    let buckets = c.in_ok-push_buckets.ensures in
    let last = c.as_str.ensures.value ∙ (rw (c.sum.ensures, buckets.total) at c.in_ok-lines.ensures) in
    joined (string_bytes c.args.out.now) times_heading (bucket_lines histogram 18) (sum_and_count (sum_in histogram) (total_below histogram 18))
    (string_bytes c.push_str.new.self) (string_bytes c.push_buckets.new.out) (string_bytes c.push_str-2.new.self)
    (rw c.times_heading.ensures at c.in_ok-push_str.ensures.bytes)
    buckets.text
    (c.in_ok-push_str-2.ensures.bytes ∙ ap (λ text. string_bytes c.push_buckets.new.out ++ text) last)
