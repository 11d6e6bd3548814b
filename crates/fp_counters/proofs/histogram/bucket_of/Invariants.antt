use Rattle.std.proofs.Common.{◌≡◌, ◌≤◌, nat_lt, take}
use Rattle.std.specs.List.{count_by}
use Rattle.fp_counters.specs.Histogram.{bounds}
use Rattle.fp_counters.proofs.histogram.bucket_of.Given as goal

-- the number of bounds below the time, among those that were looked at
abbrev pub invariant-loop-place : goal.invariant-loop-place
invariant-loop-place l = record {
  counted : l.below ≡ count_by (λ bound. nat_lt bound l.fn.microseconds) (take l.place bounds);
  few : l.below ≤ l.place;
}
