use Rattle.std.proofs.Common.{◌≡◌, ◌++◌, string_bytes}
use Rattle.fp_metrics.specs.Times.{bucket_lines, total_below}
use Rattle.fp_metrics.proofs.times.push_buckets.Given as goal

-- the text has the lines of the buckets before this one
abbrev pub invariant-loop-bucket : goal.invariant-loop-bucket
invariant-loop-bucket l = record {
  text : string_bytes l.out ≡ string_bytes l.initial.out ++ bucket_lines l.histogram l.bucket;
  total : l.total ≡ total_below l.histogram l.bucket;
}
