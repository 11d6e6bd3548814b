-- The frame of a request of the service logic: its head, and a message (Q.773, 4.2) in canonical spelling (X.690,
-- 10.1).
use Rattle.std.specs.Prelude.{◌≡◌, ℕ, List, length, map, Option, Some, None, option_map}
use Rattle.fp_ber.specs.Tree.{InRange, Tree}
use Rattle.fp_ber.specs.Canon.{canon}
use Rattle.fp_ber.specs.Spelling.{Spells}
use Rattle.fp_apdu.specs.Aare.{aare}
use Rattle.fp_apdu.specs.Abrt.{abrt}
use Rattle.fp_apdu.specs.DialoguePortion.{dialogue_portion}
use Rattle.fp_apdu.specs.declared.verdict.Verdict.TheVariants as verdicts
use Rattle.fp_frames.specs.Frame.{IsMessageLength, framed}
use Rattle.fp_inap.specs.Connect.{connect}
use Rattle.fp_inap.specs.ReleaseCall.{release_call}
use Rattle.fp_inap.specs.RequestReport.{request_report}
use Rattle.fp_inap.specs.Operation.{code_of}
use Rattle.fp_inap.specs.OperationError as errors
use Rattle.fp_q773.specs.Grammar.{IsMessage}
use Rattle.fp_q773.specs.Problem.{problem_of}
use Rattle.fp_q773.specs.Tid.{octets_of_number}
use Rattle.fp_q773.specs.Value as value
use Rattle.fp_q773.specs.Value.{ComponentValue, MessageValue}
use Rattle.fp_q773.specs.Written.{written}
use Rattle.fp_service.specs.declared.component.Component.{Component}
use Rattle.fp_service.specs.declared.component.Component.TheVariants.{Invoke, ReturnError, Reject}
use Rattle.fp_service.specs.declared.instruction.Instruction.{Instruction}
use Rattle.fp_service.specs.declared.instruction.Instruction.TheVariants as instructions
use Rattle.fp_service.specs.declared.request.AbortPortion.{AbortPortion}
use Rattle.fp_service.specs.declared.request.AbortPortion.TheVariants.{Absent, Abrt, NoName, NoVersion}
use Rattle.fp_service.specs.declared.request.Request.{Request}
use Rattle.fp_service.specs.declared.request.Request.TheVariants as requests
use Rattle.fp_service.specs.Answer.{operation_of}

-- the argument of the operation of an instruction, if it has one
abbrev pub argument_of : Instruction → Option Tree
argument_of (instructions.Connect destination) = Some (connect destination)
argument_of (instructions.ReleaseCall cause) = Some (release_call cause)
argument_of instructions.RequestReportBcsmEvent = Some request_report
argument_of instructions.Continue = None
argument_of instructions.ActivityTest = None

-- a component: no Invoke has a linked identifier, and no ReturnError a parameter
abbrev pub component_value : Component → ComponentValue
component_value (Invoke identifier instruction) =
    value.invoke identifier None (value.local (code_of (operation_of instruction))) (argument_of instruction)
component_value (ReturnError identifier error) = value.return_error identifier (value.local (errors.code_of error)) None
component_value (Reject identifier problem) = value.reject identifier (problem_of problem)

-- the dialogue portion that accepts a dialogue of an application context name: an AARE
abbrev pub acceptance_portion : Option (List ℕ) → Option Tree
acceptance_portion = option_map (λ name. dialogue_portion (aare name verdicts.Accepted))

-- the dialogue portion of an Abort: an ABRT, or an AARE that rejects the dialogue
abbrev pub abort_portion : AbortPortion → Option Tree
abort_portion Absent = None
abort_portion Abrt = Some (dialogue_portion abrt)
abort_portion (NoName name) = Some (dialogue_portion (aare name verdicts.NoName))
abort_portion (NoVersion name) = Some (dialogue_portion (aare name verdicts.NoVersion))

-- the message, in a dialogue with this local identifier and with an identifier of these octets at the peer; only a
-- Continue has the local one
abbrev pub reply : Request → ℕ → List ℕ → MessageValue
reply (requests.Continue acceptance components) local peer =
    value.continuing (octets_of_number local) peer (acceptance_portion acceptance) (map component_value components)
reply (requests.End acceptance components) local peer = value.end peer (acceptance_portion acceptance) (map component_value components)
reply (requests.Abort portion) local peer = value.abort peer (option_map value.user (abort_portion portion))

-- the frame of a request
unfoldable pub frame_of : Request → ℕ → List ℕ → List ℕ
frame_of request local peer = framed (canon (written (reply request local peer)))

-- a frame whose message is read as this value: an element in range is spelled, and the element is the message
pub record IsFrameOf (frame : List ℕ) (value : MessageValue) : Type 0 where
  pub message : List ℕ
  pub element : Tree
  pub whole : frame ≡ framed message
  pub fits : IsMessageLength (length message)
  pub spelled : Spells message element
  pub in_range : InRange element
  pub says : IsMessage element value
