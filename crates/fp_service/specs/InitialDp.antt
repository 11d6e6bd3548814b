-- The request for an InitialDP: the rule of the called number decides.
use Rattle.std.specs.Prelude.{ℕ, ℤ, List, [], ◌∷◌, Option, Some, None}
use Rattle.fp_digits.specs.declared.cause_value.Cause.TheVariants.{NoRouteToDestination, CallRejected}
use Rattle.fp_digits.specs.declared.number.Number.{Number}
use Rattle.fp_entry.specs.declared.found.Found.{Found}
use Rattle.fp_entry.specs.declared.found.Found.TheVariants.{Missing, WrongKey, NoRecord, Record}
use Rattle.fp_inap.specs.declared.operation_error.OperationError.TheVariants.{MissingParameter, UnexpectedDataValue, MissingCustomerRecord, UnexpectedComponentSequence}
use Rattle.fp_records.specs.Action.{first_of, rest_of}
use Rattle.fp_records.specs.Choice.{choice}
use Rattle.fp_records.specs.declared.action.Action.{Action}
use Rattle.fp_records.specs.declared.action.Action.TheVariants.{Route, Refuse, Pass}
use Rattle.fp_records.specs.declared.action.Destinations.{Destinations}
use Rattle.fp_records.specs.declared.rule.Rule.{Rule}
use Rattle.fp_service.specs.declared.component.Component.TheVariants.{ReturnError}
use Rattle.fp_service.specs.declared.dialogue.Core.{Core}
use Rattle.fp_service.specs.declared.instruction.Instruction.TheVariants.{Connect, ReleaseCall, Continue}
use Rattle.fp_service.specs.declared.request.Request.{Request}
use Rattle.fp_service.specs.declared.state.Stage.{Stage}
use Rattle.fp_service.specs.declared.state.Stage.TheVariants.{Fresh, Waiting}
use Rattle.fp_service.specs.Answer.{continue_with, end_with, conclude}
use Rattle.fp_service.specs.Attempt.{try_next}

-- the digits of the calling number, none if it is absent
abbrev pub calling_digits : Option Number → List ℕ
calling_digits None = []
calling_digits (Some number) = number.digits

-- the call goes to its only destination, or to the first of several
abbrev pub by_destinations : Core → ℕ → Destinations → Option Destinations → Core × Option Request
by_destinations core moment destinations None = conclude core (Connect (first_of destinations))
by_destinations core moment destinations (Some others) = try_next core moment (Some destinations) NoRouteToDestination

-- the request that a rule's action makes
unfoldable pub by_action : Core → ℕ → Action → Core × Option Request
by_action core moment Refuse = conclude core (ReleaseCall CallRejected)
by_action core moment Pass = conclude core Continue
by_action core moment (Route destinations) = by_destinations core moment destinations (rest_of destinations)

-- the action of the rule that was chosen; without a rule there is no route
unfoldable pub by_rule : Core → ℕ → Option Rule → Core × Option Request
by_rule core moment None = conclude core (ReleaseCall NoRouteToDestination)
by_rule core moment (Some rule) = by_action core moment rule.action

-- a call: the rule is chosen by the calling digits, the moment of the entry and the birth of the dialogue
unfoldable pub on_call : Core → ℕ → ℤ → List ℕ → Found → Core × Option Request
on_call core moment identifier calling Missing = end_with core (ReturnError identifier MissingParameter ∷ [])
on_call core moment identifier calling WrongKey = end_with core (ReturnError identifier UnexpectedDataValue ∷ [])
on_call core moment identifier calling NoRecord = end_with core (ReturnError identifier MissingCustomerRecord ∷ [])
on_call core moment identifier calling (Record rules) = by_rule core moment (choice rules calling moment core.birth)

-- an InitialDP begins the call, and is an error in a call that waits
unfoldable pub on_initial_dp : Stage → Core → ℕ → ℤ → List ℕ → Found → Core × Option Request
on_initial_dp Fresh core moment identifier calling found = on_call core moment identifier calling found
on_initial_dp (Waiting left) core moment identifier calling found =
    continue_with core (ReturnError identifier UnexpectedComponentSequence ∷ [])
