-- The request that follows from a ReturnResult, a ReturnError or a Reject.
use Rattle.std.specs.Prelude.{ℕ, ℤ, Bool, false, Option, Some, None, if◌then◌else◌}
use Rattle.fp_ism.specs.Invocations.{after_outcome}
use Rattle.fp_ism.specs.Outcome.{outcome_of_reject}
use Rattle.fp_ism.specs.Testing.{is_class_3}
use Rattle.fp_ism.specs.declared.outcome.Outcome.{Outcome}
use Rattle.fp_ism.specs.declared.outcome.Outcome.TheVariants.{Success, Failure, Stays, Ignored, Problem}
use Rattle.fp_q773.specs.declared.operation_class.OperationClass.{OperationClass}
use Rattle.fp_service.specs.declared.dialogue.Core.{Core}
use Rattle.fp_service.specs.declared.request.Request.{Request}
use Rattle.fp_service.specs.declared.state.Stage.{Stage}
use Rattle.fp_service.specs.Answer.{no_request, reject}
use Rattle.fp_service.specs.Attempt.{on_failure}

-- a problem is rejected, and a failure means that the destination that is tried failed
abbrev pub by_outcome : Stage → Core → ℕ → ℤ → Outcome → Core × Option Request
by_outcome stage core moment identifier (Problem problem) = reject core (Some identifier) problem
by_outcome stage core moment identifier Failure = on_failure stage core moment
by_outcome stage core moment identifier Success = no_request core
by_outcome stage core moment identifier Stays = no_request core
by_outcome stage core moment identifier Ignored = no_request core

-- a component with this identifier had this outcome
unfoldable pub on_outcome : Stage → Core → ℕ → ℤ → Outcome → Core × Option Request
on_outcome stage core moment identifier outcome =
    by_outcome stage (record core { invocations = after_outcome outcome identifier core.invocations }) moment identifier outcome

-- whether the invocation that a component names tests the dialogue, by its class
abbrev pub is_of_test : Option OperationClass → Bool
is_of_test None = false
is_of_test (Some class) = is_class_3 class

-- A Reject that names an invocation of this class, or none. A test that is rejected has shown that the dialogue exists,
-- so it ends and nothing is requested; the destination that is tried did not fail.
unfoldable pub on_reject : Stage → Core → ℕ → ℤ → Option OperationClass → Core × Option Request
on_reject stage core moment identifier class =
    if is_of_test class
    then no_request (record core { invocations = after_outcome (outcome_of_reject class) identifier core.invocations })
    else on_outcome stage core moment identifier (outcome_of_reject class)
