-- The outcome of a component for the invocation that it names, by the class of the operation (ITU-T Q.774, 3.2); `None`
-- if no invocation has its invoke identifier. The columns of the table are the five cases of each function.
use Rattle.std.specs.Prelude.{Bool, true, false, None, Some}
use Rattle.std.specs.declared.option.Option.{Option}
use Rattle.fp_q773.specs.declared.operation_class.OperationClass.{OperationClass}
use Rattle.fp_q773.specs.declared.operation_class.OperationClass.TheVariants.{Class1, Class2, Class3, Class4}
use Rattle.fp_q773.specs.declared.problem.Problem.TheVariants.{ReturnResult, ReturnError}
use Rattle.fp_q773.specs.declared.problem.ReturnResultProblem.TheVariants as return_result
use Rattle.fp_q773.specs.declared.problem.ReturnErrorProblem.TheVariants as return_error
use Rattle.fp_ism.specs.declared.outcome.Outcome.{Outcome}
use Rattle.fp_ism.specs.declared.outcome.Outcome.TheVariants.{Success, Failure, Stays, Ignored, Problem}

-- a ReturnResult that is the last
abbrev pub outcome_of_result_last : Option OperationClass → Outcome
outcome_of_result_last None = Problem (ReturnResult return_result.UnrecognizedInvokeIdentifier)
outcome_of_result_last (Some Class1) = Success
outcome_of_result_last (Some Class2) = Problem (ReturnResult return_result.ReturnResultUnexpected)
outcome_of_result_last (Some Class3) = Success
outcome_of_result_last (Some Class4) = Problem (ReturnResult return_result.ReturnResultUnexpected)

-- a ReturnResult that isn't the last
abbrev pub outcome_of_result_not_last : Option OperationClass → Outcome
outcome_of_result_not_last None = Problem (ReturnResult return_result.UnrecognizedInvokeIdentifier)
outcome_of_result_not_last (Some Class1) = Stays
outcome_of_result_not_last (Some Class2) = Problem (ReturnResult return_result.ReturnResultUnexpected)
outcome_of_result_not_last (Some Class3) = Stays
outcome_of_result_not_last (Some Class4) = Problem (ReturnResult return_result.ReturnResultUnexpected)

-- either of the two
abbrev pub outcome_of_result : Bool → Option OperationClass → Outcome
outcome_of_result true class = outcome_of_result_last class
outcome_of_result false class = outcome_of_result_not_last class

-- a ReturnError
abbrev pub outcome_of_error : Option OperationClass → Outcome
outcome_of_error None = Problem (ReturnError return_error.UnrecognizedInvokeIdentifier)
outcome_of_error (Some Class1) = Failure
outcome_of_error (Some Class2) = Failure
outcome_of_error (Some Class3) = Problem (ReturnError return_error.ReturnErrorUnexpected)
outcome_of_error (Some Class4) = Problem (ReturnError return_error.ReturnErrorUnexpected)

-- a Reject
abbrev pub outcome_of_reject : Option OperationClass → Outcome
outcome_of_reject None = Ignored
outcome_of_reject (Some Class1) = Failure
outcome_of_reject (Some Class2) = Failure
outcome_of_reject (Some Class3) = Failure
outcome_of_reject (Some Class4) = Failure
