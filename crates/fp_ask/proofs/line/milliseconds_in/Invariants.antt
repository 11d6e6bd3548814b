use Rattle.std.proofs.Common.{◌≡◌, ◌<◌, ◌^◌, drop}
use Rattle.fp_ask.proofs.Waits.{waiting}
use Rattle.fp_ask.proofs.line.milliseconds_in.Given as goal

abbrev pub invariant-loop-digit : goal.invariant-loop-digit
invariant-loop-digit l = record {
  low : l.milliseconds < 10 ^ l.digit-index;
  so_far : waiting l.milliseconds (drop l.digit-index l.digits) ≡ waiting 0 l.digits;
}
