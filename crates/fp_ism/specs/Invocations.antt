-- The invocations of a dialogue as contracts see them, and the invocations after each step.
use Rattle.std.specs.Prelude.{◌≢◌, ℕ, ℤ, pos, ◌+◌, ◌≤◌, List, ◌∷◌, [], ◌++◌, length, All, AllPairs}
use Rattle.fp_q773.specs.declared.operation_class.OperationClass.{OperationClass}
use Rattle.fp_ism.specs.declared.invocation.Invocation.{Invocation}
use Rattle.fp_ism.specs.declared.outcome.Outcome.{Outcome}
use Rattle.fp_ism.specs.declared.outcome.Outcome.TheVariants.{Success, Failure, Stays, Ignored, Problem}
use Rattle.fp_ism.specs.Due.{time_limit, those_left}
use Rattle.fp_ism.specs.Identifier.{IsIdentifier, next_identifier}
use Rattle.fp_ism.specs.Invocation.{without}

-- the identifier that was started last, 0 before the first start, and the active invocations in the order of their
-- start
pub record InvocationsValue : Type 0 where
  pub last_started : ℕ
  pub active : List Invocation

-- at most eight are active, their identifiers are distinct and 1 to 127, and the last one started is at most 127
pub record AreInvocations (invocations : InvocationsValue) : Type 0 where
  pub last : invocations.last_started ≤ 127
  pub most : length invocations.active ≤ 8
  pub identifiers : All (λ invocation. IsIdentifier invocation.identifier) invocations.active
  pub distinct : AllPairs (λ a b. a.identifier ≢ b.identifier) invocations.active

-- one more invocation, of an operation of this class, at this moment
abbrev pub started : OperationClass → ℕ → InvocationsValue → InvocationsValue
started class moment invocations =
    let identifier = next_identifier invocations.last_started invocations.active in
    record {
      last_started = identifier;
      active = invocations.active ++ record { identifier = pos identifier; class = class; due = moment + time_limit class } ∷ [];
    }

-- the invocation with this identifier, if any, is no longer active
abbrev pub ended : ℤ → InvocationsValue → InvocationsValue
ended identifier invocations = record invocations { active = without identifier invocations.active }

-- after this outcome of a component its invocation is no longer active, unless it stays; nothing else changes
abbrev pub after_outcome : Outcome → ℤ → InvocationsValue → InvocationsValue
after_outcome Stays identifier invocations = invocations
after_outcome Success identifier invocations = ended identifier invocations
after_outcome Failure identifier invocations = ended identifier invocations
after_outcome Ignored identifier invocations = ended identifier invocations
after_outcome (Problem p) identifier invocations = ended identifier invocations

-- the invocations that are due at this moment are no longer active
abbrev pub after_moment : ℕ → InvocationsValue → InvocationsValue
after_moment moment invocations = record invocations { active = those_left moment invocations.active }
