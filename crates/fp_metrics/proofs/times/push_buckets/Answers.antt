use Rattle.std.proofs.Common.{◌∙◌, string_bytes, sym}
use Rattle.fp_metrics.proofs.Parts.{more_below, one_line_more}
use Rattle.fp_metrics.proofs.times.push_buckets.Goals as goal

pub loop-bucket-preserved : goal.loop-bucket-preserved
loop-bucket-preserved c =
    let histogram = c.args.histogram.now in
    let before = c.loop-bucket.invariant in
    let total = rw (before.total, c.number.ensures) at c.saturating_add.ensures ∙ sym (more_below histogram c.loop-bucket.bucket) in
    record {
      text = one_line_more histogram c.loop-bucket.bucket (string_bytes c.args.out.now) (string_bytes c.loop-bucket.out) (string_bytes c.push_bucket.new.out)
          c.bound_of.result.now c.saturating_add.result c.bound_of.ensures total before.text c.in_ok-push_bucket.ensures;
      total = total;
    }
