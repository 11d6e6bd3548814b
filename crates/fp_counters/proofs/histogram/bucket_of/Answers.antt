use Rattle.std.proofs.Common.{arith, get_or, nat_lt, ◌∙◌}
use Rattle.fp_counters.specs.Histogram.{bounds}
use Rattle.fp_counters.proofs.Observed.{counted_next, few_next}
use Rattle.fp_counters.proofs.histogram.bucket_of.Goals as goal

pub loop-place-preserved : goal.loop-place-preserved
loop-place-preserved c = record {
  counted = c.with_bound-below.ensures
      ∙ counted_next (λ bound. nat_lt bound c.args.microseconds) bounds c.loop-place.place c.loop-place.below
      (omega (arith, c.loop-place-test.true)) c.loop-place.invariant.counted;
  few = few_next (nat_lt (get_or bounds c.loop-place.place 0) c.args.microseconds) c.loop-place.below _ c.loop-place.place
      c.with_bound-below.ensures c.loop-place.invariant.few;
}
