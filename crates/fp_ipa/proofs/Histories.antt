-- What a connection has received by the time it is in a state.
use Rattle.std.proofs.Common.{◌≡◌, ℕ, List, [], ◌∷◌, ◌++◌, refl, ap, inl, inr}
use Rattle.std.specs.Prelude.{◌⊎◌}
use Rattle.fp_ipa.specs.declared.connection.State.{State}
use Rattle.fp_ipa.specs.declared.connection.State.TheVariants.{Asked, Named, Active, Closed}
use Rattle.fp_ipa.specs.declared.received.Received.{Received}
use Rattle.fp_ipa.specs.declared.received.Received.TheVariants as received
use Rattle.fp_ipa.specs.Connection.{next, state_after}
use Rattle.fp_ipa.specs.Laws.{ActiveWasNamed}

-- a message makes a connection named only if it names the unit
step_named : (state : State) (what : Received) (unit : ℕ) → next state what ≡ Named unit
    → (state ≡ Named unit) ⊎ (what ≡ received.Named unit)
step_named Asked received.Ping unit e = absurd (cc e)
step_named Asked (received.Named one) unit e = inr (cc e)
step_named Asked received.Misnamed unit e = absurd (cc e)
step_named Asked received.Acknowledged unit e = absurd (cc e)
step_named Asked received.UnitData unit e = absurd (cc e)
step_named Asked received.Unknown unit e = absurd (cc e)
step_named (Named other) received.Ping unit e = inl e
step_named (Named other) (received.Named one) unit e = absurd (cc e)
step_named (Named other) received.Misnamed unit e = absurd (cc e)
step_named (Named other) received.Acknowledged unit e = absurd (cc e)
step_named (Named other) received.UnitData unit e = absurd (cc e)
step_named (Named other) received.Unknown unit e = inl e
step_named (Active other) received.Ping unit e = absurd (cc e)
step_named (Active other) (received.Named one) unit e = absurd (cc e)
step_named (Active other) received.Misnamed unit e = absurd (cc e)
step_named (Active other) received.Acknowledged unit e = absurd (cc e)
step_named (Active other) received.UnitData unit e = absurd (cc e)
step_named (Active other) received.Unknown unit e = absurd (cc e)
step_named Closed what unit e = absurd (cc e)

-- a message makes a connection active only if it acknowledges
step_active : (state : State) (what : Received) (unit : ℕ) → next state what ≡ Active unit
    → (state ≡ Active unit) ⊎ ((state ≡ Named unit) × (what ≡ received.Acknowledged))
step_active Asked received.Ping unit e = absurd (cc e)
step_active Asked (received.Named one) unit e = absurd (cc e)
step_active Asked received.Misnamed unit e = absurd (cc e)
step_active Asked received.Acknowledged unit e = absurd (cc e)
step_active Asked received.UnitData unit e = absurd (cc e)
step_active Asked received.Unknown unit e = absurd (cc e)
step_active (Named other) received.Ping unit e = absurd (cc e)
step_active (Named other) (received.Named one) unit e = absurd (cc e)
step_active (Named other) received.Misnamed unit e = absurd (cc e)
step_active (Named other) received.Acknowledged unit e = inr (cc e, refl)
step_active (Named other) received.UnitData unit e = absurd (cc e)
step_active (Named other) received.Unknown unit e = absurd (cc e)
step_active (Active other) received.Ping unit e = inl e
step_active (Active other) (received.Named one) unit e = absurd (cc e)
step_active (Active other) received.Misnamed unit e = absurd (cc e)
step_active (Active other) received.Acknowledged unit e = absurd (cc e)
step_active (Active other) received.UnitData unit e = inl e
step_active (Active other) received.Unknown unit e = inl e
step_active Closed what unit e = absurd (cc e)

-- a connection that is named was named by a message
was_named : (history : List Received) (unit : ℕ) → state_after history ≡ Named unit
    → (later : List Received) × (earlier : List Received) × (history ≡ later ++ received.Named unit ∷ earlier)
was_named [] unit e = absurd (cc e)
was_named (what ∷ history) unit e =
    elim (step_named (state_after history) what unit e) [
      | inl before ↦
          let named = was_named history unit before in (what ∷ named.0, named.1, ap (λ h. what ∷ h) named.2)
      | inr now ↦ ([], history, ap (λ w. w ∷ history) now)
    ]

-- a connection that is active was named, and acknowledged after that
pub active_was_named : ActiveWasNamed
active_was_named [] unit e = absurd (cc e)
active_was_named (what ∷ history) unit e =
    elim (step_active (state_after history) what unit e) [
      | inl before ↦
          let active = active_was_named history unit before in
          (what ∷ active.0, active.1, active.2, ap (λ h. what ∷ h) active.3)
      | inr now ↦
          let named = was_named history unit now.0 in
          ([], named.0, named.1, λ i. now.1 i ∷ named.2 i)
    ]
