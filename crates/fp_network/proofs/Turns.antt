-- A turn looks at each place in one step.
use Rattle.std.proofs.Common.{◌≡◌, ◌<◌, ◌≤◌, ◌+◌, ◌-◌, ◌%◌, ℕ, ◌⊎◌, arith, inl, inr, sym, ◌∙◌}
use Rattle.std.proofs.Math.Nat.{mod-eq-sub-mod, mod-eq_of_lt}
use Rattle.std.proofs.lemmas.Bool.{cases_lt}
use Rattle.fp_network.specs.Turns.{EachOnce, place_in_turn}

pub before_end : (place : ℕ) → place < 16 → place % 16 ≡ place
before_end place below = mod-eq_of_lt below

pub past_end : (place : ℕ) → 16 ≤ place → place < 32 → place % 16 ≡ place - 16
past_end place above below = mod-eq-sub-mod above ∙ mod-eq_of_lt (omega (arith, above, below))

-- a step leads to a place before the end or past it
either : (first place step : ℕ) → first < 16 → step < 16 → place_in_turn first step ≡ place → (first + step ≡ place) ⊎ (first + step ≡ place + 16)
either first place step low small is = elim (cases_lt (first + step) 16) [
  | inl below ↦ inl (sym (before_end (first + step) below) ∙ is)
  | inr above ↦
      let past = past_end (first + step) above (omega (arith, low, small)) in
      inr (omega (arith, above, past, is))
]

pub each_once : EachOnce
each_once first place low below = elim (cases_lt place first) [
  | inl less ↦ (
    place + 16 - first,
    omega (arith, low, less),
    past_end (first + (place + 16 - first)) (omega (arith, low)) (omega (arith, low, below)) ∙ omega (arith, low),
    λ other small is. elim (either first place other low small is) [
      | inl same ↦ absurd (omega (arith, same, less))
      | inr same ↦ omega (arith, same)
    ],
  )
  | inr above ↦ (
    place - first,
    omega (arith, below),
    before_end (first + (place - first)) (omega (arith, above, below)) ∙ omega (arith, above),
    λ other small is. elim (either first place other low small is) [
      | inl same ↦ omega (arith, same)
      | inr same ↦ absurd (omega (arith, same, small, above))
    ],
  )
]
