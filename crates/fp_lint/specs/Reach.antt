-- Which callers are taken from a rule by rules with longer prefixes. A whole calling number has 15 decimal digits, as
-- many as the longest prefix.
use Rattle.std.specs.Prelude.{◌≡◌, ◌≢◌, ◌⊎◌, ℕ, ◌+◌, ◌/◌, ◌%◌, ◌<◌, ◌++◌, List, [], Bool, true, false, ◌&&◌, length, nat_lt}
use Rattle.std.specs.List.{All, list_any}
use Rattle.fp_records.specs.Choice.{fits}
use Rattle.fp_records.specs.declared.rule.Rule.{Rule}
use Rattle.fp_lint.specs.Week.{holds_at}

-- whether a rule with a longer prefix than this fits a call at a minute of the week
abbrev pub takes_any : List Rule → ℕ → ℕ → List ℕ → Bool
takes_any rules longer minute calling =
    list_any (λ rule. nat_lt longer (length rule.prefix) && fits calling (minute / 1440 + 1) (minute % 1440) rule) rules

-- a whole number that begins with these digits
pub record IsWhole (front more : List ℕ) : Type 0 where
  pub size : length (front ++ more) ≡ 15
  pub decimal : All (λ digit. digit < 10) (front ++ more)

-- each of its callers is taken
abbrev pub AllTaken : List Rule → ℕ → ℕ → List ℕ → Type 0
AllTaken rules longer minute front = (more : List ℕ) → IsWhole front more → takes_any rules longer minute (front ++ more) ≡ true

-- one is not
abbrev pub SomeLeft : List Rule → ℕ → ℕ → List ℕ → Type 0
SomeLeft rules longer minute front = (more : List ℕ) × IsWhole front more × (takes_any rules longer minute (front ++ more) ≡ false)

-- if a rule holds at a minute, each caller whose number begins with its prefix is taken
abbrev pub IsTakenAt : List Rule → Rule → ℕ → Type 0
IsTakenAt rules rule minute = holds_at rule minute ≡ true → AllTaken rules (length rule.prefix) minute rule.prefix

-- a rule holds at a minute, and one of these callers is not taken
abbrev pub IsGotAt : List Rule → Rule → ℕ → Type 0
IsGotAt rules rule minute = (holds_at rule minute ≡ true) × SomeLeft rules (length rule.prefix) minute rule.prefix

-- no call from a whole number gets a rule
abbrev pub IsTaken : List Rule → Rule → Type 0
IsTaken rules rule = (rule.prefix ≢ []) × ((minute : ℕ) → minute < 10080 → IsTakenAt rules rule minute)

-- a call without a calling number may get it, or one from a whole number at some minute
abbrev pub IsGot : List Rule → Rule → Type 0
IsGot rules rule = (rule.prefix ≡ []) ⊎ ((minute : ℕ) × (minute < 10080) × IsGotAt rules rule minute)
