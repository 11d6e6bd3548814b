-- The order in which the 16 places of a node are looked at in a turn: from one place on, round to the one before it.
use Rattle.std.specs.Prelude.{◌≡◌, ◌<◌, ◌+◌, ◌%◌, ℕ}

-- the place at this step of a turn that begins at a place
abbrev pub place_in_turn : ℕ → ℕ → ℕ
place_in_turn first step = (first + step) % 16

-- each place is looked at in one step, and in no other one
abbrev pub EachOnce : Type 0
EachOnce =
    (first place : ℕ) → first < 16 → place < 16
    → (step : ℕ) × (step < 16) × (place_in_turn first step ≡ place)
    × ((other : ℕ) → other < 16 → place_in_turn first other ≡ place → other ≡ step)
