use Rattle.std.proofs.Common.{arith, ◌<◌}
use Rattle.fp_ask.proofs.Waits.{few_digits, more_digits, waiting-more}
use Rattle.fp_ask.proofs.line.milliseconds_in.Goals as goal

pub overflow_mul-milliseconds : goal.overflow_mul-milliseconds
overflow_mul-milliseconds c =
    let few = few_digits c.loop-digit.milliseconds c.loop-digit.digit-index c.loop-digit.invariant.low (omega arith) in
    omega (arith, few)

pub overflow_add-milliseconds : goal.overflow_add-milliseconds
overflow_add-milliseconds c =
    let few = few_digits c.loop-digit.milliseconds c.loop-digit.digit-index c.loop-digit.invariant.low (omega arith) in
    let digit : c.from.result < 10 = grind arith in
    omega (arith, few, digit)

pub loop-digit-preserved : goal.loop-digit-preserved
loop-digit-preserved c =
    let digit : c.from.result < 10 = grind arith in
    record {
      low = more_digits c.loop-digit.milliseconds c.loop-digit.digit-index c.from.result c.loop-digit.invariant.low digit;
      so_far = grind (arith, waiting-more);
    }
