-- The request for an EventReportBCSM.
use Rattle.std.specs.Prelude.{ℕ, [], ◌∷◌, Bool, true, false, Option}
use Rattle.fp_digits.specs.declared.cause_value.Cause.TheVariants.{NoRouteToDestination, UserBusy, NoAnswerFromUser}
use Rattle.fp_inap.specs.declared.event.Event.{Event}
use Rattle.fp_inap.specs.declared.event.Event.TheVariants.{RouteSelectFailure, OCalledPartyBusy, ONoAnswer, OAnswer, ODisconnect, OAbandon, Other}
use Rattle.fp_records.specs.declared.action.Destinations.{Destinations}
use Rattle.fp_service.specs.declared.dialogue.Core.{Core}
use Rattle.fp_service.specs.declared.instruction.Instruction.TheVariants.{Continue}
use Rattle.fp_service.specs.declared.request.Request.{Request}
use Rattle.fp_service.specs.declared.state.Stage.{Stage}
use Rattle.fp_service.specs.declared.state.Stage.TheVariants.{Fresh, Waiting}
use Rattle.fp_service.specs.Answer.{no_request, end_with, instruct}
use Rattle.fp_service.specs.Attempt.{try_next}

-- an event that says nothing about the destination: a switch that waits gets Continue
abbrev pub goes_on : Core → ℕ → Bool → Core × Option Request
goes_on core moment true = no_request core
goes_on core moment false = instruct core moment (Continue ∷ [])

-- an event of a call for which these destinations are left, as a notification or not
unfoldable pub on_report : Core → ℕ → Option Destinations → Event → Bool → Core × Option Request
on_report core moment left RouteSelectFailure notification = try_next core moment left NoRouteToDestination
on_report core moment left OCalledPartyBusy notification = try_next core moment left UserBusy
on_report core moment left ONoAnswer notification = try_next core moment left NoAnswerFromUser
on_report core moment left OAnswer notification = end_with core []
on_report core moment left OAbandon notification = end_with core []
on_report core moment left ODisconnect notification = goes_on core moment notification
on_report core moment left (Other code) notification = goes_on core moment notification

-- an event matters only while a call waits
unfoldable pub on_event : Stage → Core → ℕ → Event → Bool → Core × Option Request
on_event Fresh core moment reports notification = no_request core
on_event (Waiting left) core moment reports notification = on_report core moment left reports notification
