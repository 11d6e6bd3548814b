use Rattle.std.proofs.Common.{◌≡◌, ℕ, Option, Some, None, sym, ◌∙◌}
use Rattle.fp_adaptor.specs.Connections.{IsFirst}
use Rattle.fp_adaptor.proofs.adaptor.Adaptor.sends_by.Goals as goal

-- which unit is the first doesn't depend on how its connection is known
IsFirst-as : (has known : ℕ → Option ℕ) (first : Option ℕ) → ((unit : ℕ) → has unit ≡ known unit) → IsFirst has first → IsFirst known first
IsFirst-as has known None same none = λ unit. sym (same unit) ∙ none unit
IsFirst-as has known (Some connection) same (unit, is, before) =
    (unit, sym (same unit) ∙ is, λ other below. sym (same other) ∙ before other below)

pub returns : goal.returns
returns c = λ setting history led. IsFirst-as _ _ c.first.result led.connections c.first.ensures
