-- The cause values of ITU-T Q.850.
use Rattle.std.specs.Prelude.{ℕ}
use Rattle.fp_digits.specs.declared.cause_value.Cause.{Cause}
use Rattle.fp_digits.specs.declared.cause_value.Cause.TheVariants.{NoRouteToDestination, UserBusy, NoAnswerFromUser, CallRejected}

abbrev pub cause_value : Cause → ℕ
cause_value NoRouteToDestination = 3
cause_value UserBusy = 17
cause_value NoAnswerFromUser = 19
cause_value CallRejected = 21
