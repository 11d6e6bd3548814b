-- What a frame counts that was sent: one message (Q.774), and each of its components (Q.773, 4.2.2), by its operation, its
-- cause (Q.850), its error or its problem.
use Rattle.std.specs.Prelude.{ℕ, Bool, true, false, List, [], ◌∷◌, ◌++◌, ◌==◌, Option, Some, None, option_map, if◌then◌else◌}
use Rattle.std.specs.List.{slice_get}
use Rattle.fp_digits.specs.declared.cause_value.Cause.{Cause}
use Rattle.fp_digits.specs.declared.cause_value.Cause.TheVariants as release_causes
use Rattle.fp_inap.specs.declared.operation_error.OperationError.{OperationError}
use Rattle.fp_inap.specs.declared.operation_error.OperationError.TheVariants as errors
use Rattle.fp_q773.specs.declared.problem.Problem.{Problem}
use Rattle.fp_q773.specs.declared.problem.Problem.TheVariants as problems
use Rattle.fp_q773.specs.declared.problem.GeneralProblem.TheVariants as general
use Rattle.fp_q773.specs.declared.problem.InvokeProblem.TheVariants as of_invoke
use Rattle.fp_q773.specs.declared.problem.ReturnResultProblem.TheVariants as of_result
use Rattle.fp_q773.specs.declared.problem.ReturnErrorProblem.TheVariants as of_error
use Rattle.fp_q773.specs.declared.provider_abort.AbortCause.{AbortCause}
use Rattle.fp_q773.specs.declared.provider_abort.AbortCause.TheVariants as abort_causes
use Rattle.fp_q773.specs.Problem.{general_code, invoke_code, return_error_code, return_result_code}
use Rattle.fp_service.specs.declared.component.Component.{Component}
use Rattle.fp_service.specs.declared.component.Component.TheVariants as component
use Rattle.fp_service.specs.declared.instruction.Instruction.{Instruction}
use Rattle.fp_service.specs.declared.instruction.Instruction.TheVariants as instructions
use Rattle.fp_service.specs.declared.request.Request.{Request}
use Rattle.fp_service.specs.declared.request.Request.TheVariants as requests
use Rattle.fp_counters.specs.declared.counter.Counter.{Counter}
use Rattle.fp_counters.specs.declared.counter.Counter.TheVariants as counters
use Rattle.fp_counters.specs.declared.frame.FrameCounts.{FrameCounts}
use Rattle.fp_counters.specs.Counted.{Increase, once}

abbrev pub release_counter : Cause → Counter
release_counter release_causes.NoRouteToDestination = counters.ReleaseNoRoute
release_counter release_causes.UserBusy = counters.ReleaseBusy
release_counter release_causes.NoAnswerFromUser = counters.ReleaseNoAnswer
release_counter release_causes.CallRejected = counters.ReleaseRejected

abbrev pub instruction_counter : Instruction → Counter
instruction_counter (instructions.Connect destination) = counters.Connect
instruction_counter (instructions.ReleaseCall cause) = release_counter cause
instruction_counter instructions.RequestReportBcsmEvent = counters.RequestReport
instruction_counter instructions.Continue = counters.ContinueOperation
instruction_counter instructions.ActivityTest = counters.ActivityTest

abbrev pub error_counter : OperationError → Counter
error_counter errors.MissingCustomerRecord = counters.MissingCustomerRecord
error_counter errors.MissingParameter = counters.MissingParameter
error_counter errors.UnexpectedComponentSequence = counters.UnexpectedComponentSequence
error_counter errors.UnexpectedDataValue = counters.UnexpectedDataValue

-- a General problem, an Invoke problem, a ReturnResult problem and a ReturnError problem, by their values: those that the
-- service may find have a counter of their own
abbrev pub general_counter : ℕ → Counter
general_counter value =
    if value == general_code general.UnrecognizedComponent then counters.RejectUnrecognizedComponent
    else if value == general_code general.MistypedComponent then counters.RejectMistypedComponent
    else counters.RejectOther

abbrev pub invoke_problem_counter : ℕ → Counter
invoke_problem_counter value =
    if value == invoke_code of_invoke.UnrecognizedOperation then counters.RejectUnrecognizedOperation
    else if value == invoke_code of_invoke.MistypedParameter then counters.RejectMistypedParameter
    else if value == invoke_code of_invoke.UnrecognizedLinkedIdentifier then counters.RejectUnrecognizedLinkedIdentifier
    else if value == invoke_code of_invoke.LinkedResponseUnexpected then counters.RejectLinkedResponseUnexpected
    else counters.RejectOther

abbrev pub result_problem_counter : ℕ → Counter
result_problem_counter value =
    if value == return_result_code of_result.UnrecognizedInvokeIdentifier then counters.RejectUnrecognizedResult
    else if value == return_result_code of_result.ReturnResultUnexpected then counters.RejectResultUnexpected
    else counters.RejectOther

abbrev pub error_problem_counter : ℕ → Counter
error_problem_counter value =
    if value == return_error_code of_error.UnrecognizedInvokeIdentifier then counters.RejectUnrecognizedError
    else if value == return_error_code of_error.ReturnErrorUnexpected then counters.RejectErrorUnexpected
    else counters.RejectOther

abbrev pub problem_counter : Problem → Counter
problem_counter (problems.General problem) = general_counter (general_code problem)
problem_counter (problems.Invoke problem) = invoke_problem_counter (invoke_code problem)
problem_counter (problems.ReturnResult problem) = result_problem_counter (return_result_code problem)
problem_counter (problems.ReturnError problem) = error_problem_counter (return_error_code problem)

abbrev pub component_counter : Component → Counter
component_counter (component.Invoke identifier instruction) = instruction_counter instruction
component_counter (component.ReturnError identifier error) = error_counter error
component_counter (component.Reject identifier problem) = problem_counter problem

-- the Aborts of the provider that were sent
abbrev pub abort_counter : AbortCause → Counter
abort_counter abort_causes.UnrecognizedMessageType = counters.SentUnknownMessage
abort_counter abort_causes.UnrecognizedTransactionIdentifier = counters.SentUnknownTransaction
abort_counter abort_causes.BadlyFormattedTransactionPortion = counters.SentBadTransaction
abort_counter abort_causes.IncorrectTransactionPortion = counters.SentIncorrectTransaction
abort_counter abort_causes.ResourceLimitation = counters.SentLimit

-- the counter of the component in this place of a message, if it has one
abbrev pub counter_at : List Component → ℕ → Option Counter
counter_at components place = option_map component_counter (slice_get components place)

-- the frame of a message that has these components: a message has two at most
abbrev pub frame_with : Counter → Bool → List Component → FrameCounts
frame_with message ends components = record {
  message = Some message;
  ends_dialogue = ends;
  first = counter_at components 0;
  second = counter_at components 1;
}

-- the frame of a request of the service: an End and an Abort end the dialogue
abbrev pub request_frame : Request → FrameCounts
request_frame (requests.Continue acceptance components) = frame_with counters.SentContinue false components
request_frame (requests.End acceptance components) = frame_with counters.SentEnd true components
request_frame (requests.Abort portion) = frame_with counters.SentUserAbort true []

-- the frame of an Abort of the provider, which is of no dialogue
abbrev pub provider_frame : AbortCause → FrameCounts
provider_frame cause = frame_with (abort_counter cause) false []

-- an event, if there is one
abbrev pub optional_counts : Option Counter → List Increase
optional_counts None = []
optional_counts (Some counter) = once counter ∷ []

abbrev pub ended_counts : Bool → List Increase
ended_counts false = []
ended_counts true = once counters.EndedByService ∷ []

-- the events of a frame that was sent, each once
abbrev pub sent_counts : FrameCounts → List Increase
sent_counts frame =
    optional_counts frame.second
    ++ (optional_counts frame.first ++ (optional_counts frame.message ++ ended_counts frame.ends_dialogue))
