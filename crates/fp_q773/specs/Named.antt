-- Components and messages whose problems go by their names (Q.773, 4.2.2): no value that has a name stands for itself.
use Rattle.std.specs.Prelude.{All, ⊤}
use Rattle.fp_q773.specs.declared.component.Component.{Component}
use Rattle.fp_q773.specs.declared.component.Component.TheVariants.{Invoke, ReturnResultLast, ReturnError, Reject, ReturnResultNotLast, Faulty}
use Rattle.fp_q773.specs.declared.message.Message.{Message}
use Rattle.fp_q773.specs.declared.message.Message.TheVariants as messages
use Rattle.fp_q773.specs.Problem.{IsNamed, IsNamedGeneral}

-- the problem of a component, if it has one
abbrev pub HasNamedProblem : Component → Type 0
HasNamedProblem (Invoke i) = ⊤
HasNamedProblem (ReturnResultLast r) = ⊤
HasNamedProblem (ReturnError e) = ⊤
HasNamedProblem (Reject r) = IsNamed r.problem
HasNamedProblem (ReturnResultNotLast r) = ⊤
HasNamedProblem (Faulty identifier problem) = IsNamedGeneral problem

-- the problems of the components of a message
abbrev pub HasNamedProblems : Message → Type 0
HasNamedProblems messages.Unidirectional = ⊤
HasNamedProblems (messages.Begin b) = All HasNamedProblem b.components.items
HasNamedProblems (messages.End e) = All HasNamedProblem e.components.items
HasNamedProblems (messages.Continue c) = All HasNamedProblem c.components.items
HasNamedProblems (messages.Abort a) = ⊤
