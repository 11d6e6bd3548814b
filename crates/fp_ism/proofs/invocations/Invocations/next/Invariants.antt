use Rattle.std.proofs.Common.{◌≡◌, ℕ, ◌<◌, true, pos}
use Rattle.fp_ism.specs.Identifier.{identifier_after}
use Rattle.fp_ism.specs.Invocation.{is_active}
use Rattle.fp_ism.proofs.invocations.Invocations.next.Given as goal

-- the identifiers so far are active
abbrev pub invariant-loop-step : goal.invariant-loop-step
invariant-loop-step l = (k : ℕ) → k < l.step → is_active (pos (identifier_after l.self.last_started k)) l.self.active ≡ true
