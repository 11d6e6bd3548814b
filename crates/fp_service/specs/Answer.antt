-- Requests, each a message, and the core after them. A request ends the dialogue if it is an End or an Abort. The first
-- Continue or End of a dialogue whose application context is accepted carries the AARE that accepts it (ITU-T Q.774,
-- 3.2).
use Rattle.std.specs.Prelude.{ℕ, ℤ, pos, ◌+◌, List, [], ◌∷◌, ◌||◌, Option, Some, None, is_some, length, nat_le, if◌then◌else◌}
use Rattle.fp_apdu.specs.declared.opening.Opening.{Opening}
use Rattle.fp_apdu.specs.declared.opening.Opening.TheVariants as openings
use Rattle.fp_inap.specs.declared.operation.Operation.{Operation}
use Rattle.fp_inap.specs.declared.operation.Operation.TheVariants as operation
use Rattle.fp_inap.specs.Operation.{class_of}
use Rattle.fp_ism.specs.Identifier.{next_identifier}
use Rattle.fp_ism.specs.Invocations.{InvocationsValue, started}
use Rattle.fp_q773.specs.declared.problem.Problem.{Problem}
use Rattle.fp_service.specs.declared.component.Component.{Component}
use Rattle.fp_service.specs.declared.component.Component.TheVariants as component
use Rattle.fp_service.specs.declared.dialogue.Core.{Core}
use Rattle.fp_service.specs.declared.instruction.Instruction.{Instruction}
use Rattle.fp_service.specs.declared.instruction.Instruction.TheVariants as instruction
use Rattle.fp_service.specs.declared.request.AbortPortion.{AbortPortion}
use Rattle.fp_service.specs.declared.request.AbortPortion.TheVariants as portion
use Rattle.fp_service.specs.declared.request.Request.{Request}
use Rattle.fp_service.specs.declared.request.Request.TheVariants as request
use Rattle.fp_service.specs.Dialogue.{ended}

-- the name of the dialogue's application context, if it has one that is accepted
abbrev pub context_of : Opening → Option (List ℕ)
context_of openings.None = None
context_of (openings.Known name) = Some name
context_of (openings.Unknown name) = None
context_of (openings.BadVersion name) = None

-- the name in the AARE of a Continue or End: that of the context, in the first of them
abbrev pub acceptance : Core → Option (List ℕ)
acceptance core = if core.accepted then None else context_of core.opening

-- after a Continue or End: the AARE of a dialogue with a context was sent
abbrev pub answered : Core → Core
answered core = record core { accepted = core.accepted || is_some (context_of core.opening) }

-- nothing is requested
abbrev pub no_request : Core → Core × Option Request
no_request core = (core, None)

-- a Continue message with these components
unfoldable pub continue_with : Core → List Component → Core × Option Request
continue_with core components = (answered core, Some (request.Continue (acceptance core) components))

-- an End with these components
unfoldable pub end_with : Core → List Component → Core × Option Request
end_with core components = (ended (answered core), Some (request.End (acceptance core) components))

-- an Abort with this dialogue portion
unfoldable pub abort_with : Core → AbortPortion → Core × Option Request
abort_with core portion = (ended core, Some (request.Abort portion))

-- the dialogue portion of a user Abort: an ABRT in a dialogue with an application context
abbrev pub abort_portion : Opening → AbortPortion
abort_portion openings.None = portion.Absent
abort_portion (openings.Known name) = portion.Abrt
abort_portion (openings.Unknown name) = portion.Absent
abort_portion (openings.BadVersion name) = portion.Absent

-- a user Abort
unfoldable pub user_abort : Core → Core × Option Request
user_abort core = abort_with core (abort_portion core.opening)

-- a component is rejected with a problem
unfoldable pub reject : Core → Option ℤ → Problem → Core × Option Request
reject core identifier problem = continue_with core (component.Reject identifier problem ∷ [])

-- the operation of an instruction
abbrev pub operation_of : Instruction → Operation
operation_of (instruction.Connect destination) = operation.Connect
operation_of (instruction.ReleaseCall cause) = operation.ReleaseCall
operation_of instruction.RequestReportBcsmEvent = operation.RequestReportBcsmEvent
operation_of instruction.Continue = operation.Continue
operation_of instruction.ActivityTest = operation.ActivityTest

-- the Invoke of an instruction, with the next identifier
abbrev pub invoke : InvocationsValue → Instruction → Component
invoke invocations instruction = component.Invoke (pos (next_identifier invocations.last_started invocations.active)) instruction

-- one more invocation, of this instruction
abbrev pub with_invocation : ℕ → InvocationsValue → Instruction → InvocationsValue
with_invocation moment invocations instruction = started (class_of (operation_of instruction)) moment invocations

-- the invocations after these were started at this moment, in order
abbrev pub all_started : ℕ → InvocationsValue → List Instruction → InvocationsValue
all_started moment invocations [] = invocations
all_started moment invocations (instruction ∷ rest) = all_started moment (with_invocation moment invocations instruction) rest

-- the Invokes with which they are started, in order
abbrev pub all_invokes : ℕ → InvocationsValue → List Instruction → List Component
all_invokes moment invocations [] = []
all_invokes moment invocations (instruction ∷ rest) =
    invoke invocations instruction ∷ all_invokes moment (with_invocation moment invocations instruction) rest

-- a Continue message that invokes these operations, in order; a user Abort if they don't all find a place, of eight
unfoldable pub instruct : Core → ℕ → List Instruction → Core × Option Request
instruct core moment instructions =
    if nat_le (length core.invocations.active + length instructions) 8
    then continue_with (record core { invocations = all_started moment core.invocations instructions }) (all_invokes moment core.invocations instructions)
    else user_abort core

-- an End that invokes this operation, without an invocation
unfoldable pub conclude : Core → Instruction → Core × Option Request
conclude core instruction = end_with core (invoke core.invocations instruction ∷ [])
