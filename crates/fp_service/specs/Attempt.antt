-- The destinations of a call, one after another.
use Rattle.std.specs.Prelude.{ℕ, [], ◌∷◌, Option, Some, None}
use Rattle.fp_digits.specs.declared.cause_value.Cause.{Cause}
use Rattle.fp_digits.specs.declared.cause_value.Cause.TheVariants.{NoRouteToDestination}
use Rattle.fp_records.specs.Action.{first_of, rest_of}
use Rattle.fp_records.specs.declared.action.Destinations.{Destinations}
use Rattle.fp_service.specs.declared.dialogue.Core.{Core}
use Rattle.fp_service.specs.declared.instruction.Instruction.TheVariants.{Connect, ReleaseCall, RequestReportBcsmEvent}
use Rattle.fp_service.specs.declared.request.Request.{Request}
use Rattle.fp_service.specs.declared.state.Stage.{Stage}
use Rattle.fp_service.specs.declared.state.Stage.TheVariants.{Fresh, Waiting}
use Rattle.fp_service.specs.declared.state.State.TheVariants.{Live}
use Rattle.fp_service.specs.Answer.{no_request, instruct, conclude}

-- the next of the destinations that are left is tried, and the switch reports the result; if none is left, the call is
-- released for this cause
unfoldable pub try_next : Core → ℕ → Option Destinations → Cause → Core × Option Request
try_next core moment None cause = conclude core (ReleaseCall cause)
try_next core moment (Some left) cause =
    instruct (record core { state = Live (Waiting (rest_of left)) }) moment (RequestReportBcsmEvent ∷ Connect (first_of left) ∷ [])

-- an operation failed, and so did the destination that is tried
unfoldable pub on_failure : Stage → Core → ℕ → Core × Option Request
on_failure Fresh core moment = no_request core
on_failure (Waiting left) core moment = try_next core moment left NoRouteToDestination
