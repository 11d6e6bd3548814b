-- The problems of a Reject (Q.773, 4.2.2): the values of each group, and what lies beyond them.
use Rattle.std.specs.Prelude.{ℕ, ◌≤◌, ⊤}
use Rattle.fp_q773.specs.declared.problem.Problem.{Problem}
use Rattle.fp_q773.specs.declared.problem.Problem.TheVariants as groups
use Rattle.fp_q773.specs.declared.problem.GeneralProblem.{GeneralProblem}
use Rattle.fp_q773.specs.declared.problem.GeneralProblem.TheVariants as general
use Rattle.fp_q773.specs.declared.problem.InvokeProblem.{InvokeProblem}
use Rattle.fp_q773.specs.declared.problem.InvokeProblem.TheVariants as invoke
use Rattle.fp_q773.specs.declared.problem.ReturnResultProblem.{ReturnResultProblem}
use Rattle.fp_q773.specs.declared.problem.ReturnResultProblem.TheVariants as return_result
use Rattle.fp_q773.specs.declared.problem.ReturnErrorProblem.{ReturnErrorProblem}
use Rattle.fp_q773.specs.declared.problem.ReturnErrorProblem.TheVariants as return_error
use Rattle.fp_q773.specs.Value.{ProblemValue, tagged}

abbrev pub general_code : GeneralProblem → ℕ
general_code general.UnrecognizedComponent = 0
general_code general.MistypedComponent = 1
general_code general.BadlyStructuredComponent = 2
general_code (general.Other code) = code

abbrev pub invoke_code : InvokeProblem → ℕ
invoke_code invoke.DuplicateInvokeIdentifier = 0
invoke_code invoke.UnrecognizedOperation = 1
invoke_code invoke.MistypedParameter = 2
invoke_code invoke.ResourceLimitation = 3
invoke_code invoke.InitiatingRelease = 4
invoke_code invoke.UnrecognizedLinkedIdentifier = 5
invoke_code invoke.LinkedResponseUnexpected = 6
invoke_code invoke.UnexpectedLinkedOperation = 7
invoke_code (invoke.Other code) = code

abbrev pub return_result_code : ReturnResultProblem → ℕ
return_result_code return_result.UnrecognizedInvokeIdentifier = 0
return_result_code return_result.ReturnResultUnexpected = 1
return_result_code return_result.MistypedParameter = 2
return_result_code (return_result.Other code) = code

abbrev pub return_error_code : ReturnErrorProblem → ℕ
return_error_code return_error.UnrecognizedInvokeIdentifier = 0
return_error_code return_error.ReturnErrorUnexpected = 1
return_error_code return_error.UnrecognizedError = 2
return_error_code return_error.UnexpectedError = 3
return_error_code return_error.MistypedParameter = 4
return_error_code (return_error.Other code) = code

-- the tag and the value of a problem
abbrev pub problem_of : Problem → ProblemValue
problem_of (groups.General p) = tagged 0 (general_code p)
problem_of (groups.Invoke p) = tagged 1 (invoke_code p)
problem_of (groups.ReturnResult p) = tagged 2 (return_result_code p)
problem_of (groups.ReturnError p) = tagged 3 (return_error_code p)

-- a problem that has a name goes by it
abbrev pub IsNamedGeneral : GeneralProblem → Type 0
IsNamedGeneral (general.Other code) = 3 ≤ code
IsNamedGeneral other = ⊤

abbrev pub IsNamedInvoke : InvokeProblem → Type 0
IsNamedInvoke (invoke.Other code) = 8 ≤ code
IsNamedInvoke other = ⊤

abbrev pub IsNamedReturnResult : ReturnResultProblem → Type 0
IsNamedReturnResult (return_result.Other code) = 3 ≤ code
IsNamedReturnResult other = ⊤

abbrev pub IsNamedReturnError : ReturnErrorProblem → Type 0
IsNamedReturnError (return_error.Other code) = 5 ≤ code
IsNamedReturnError other = ⊤

abbrev pub IsNamed : Problem → Type 0
IsNamed (groups.General p) = IsNamedGeneral p
IsNamed (groups.Invoke p) = IsNamedInvoke p
IsNamed (groups.ReturnResult p) = IsNamedReturnResult p
IsNamed (groups.ReturnError p) = IsNamedReturnError p
