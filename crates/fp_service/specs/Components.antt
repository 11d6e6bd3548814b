-- The components of a message that is sent, as their list, and which may be in one message. The longest argument is that
-- of RequestReportBCSMEvent. Two of them and an AARE would not fit into one unitdata message of SCCP (Q.713, 4.10).
use Rattle.std.specs.Prelude.{◌≡◌, Bool, true, false, List, [], ◌∷◌, ⊤}
use Rattle.fp_service.specs.declared.component.Component.{Component}
use Rattle.fp_service.specs.declared.component.Component.TheVariants.{Invoke}
use Rattle.fp_service.specs.declared.components.Places.{Places}
use Rattle.fp_service.specs.declared.components.Places.TheVariants.{None, One, Two}
use Rattle.fp_service.specs.declared.instruction.Instruction.{Instruction}
use Rattle.fp_service.specs.declared.instruction.Instruction.TheVariants.{RequestReportBcsmEvent}

-- none, one or two, the first one first
abbrev pub components_in : Places → List Component
components_in None = []
components_in (One places) = places
components_in (Two places) = places

-- whether an operation is RequestReportBCSMEvent
abbrev pub is_request_report : Instruction → Bool
is_request_report RequestReportBcsmEvent = true
is_request_report other = false

-- whether a component is an Invoke of it
abbrev pub requests_report : Component → Bool
requests_report (Invoke identifier instruction) = is_request_report instruction
requests_report other = false

-- the second component isn't one
abbrev pub OneRequestsReport : List Component → Type 0
OneRequestsReport (first ∷ second ∷ others) = requests_report second ≡ false
OneRequestsReport other = ⊤
