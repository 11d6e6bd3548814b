-- What a call says of the failures of a device, where those are counted.
use Rattle.std.specs.Prelude.{◌≡◌, ◌≢◌, ℕ, ◌<◌, List, length, Result, MatchResult, IfOk}

-- a call that answers Ok met no failure, and one that answers Err met one
abbrev pub CountsFailure : {A E : Type 0} → Result A E → ℕ → ℕ → Type 0
CountsFailure result old new = MatchResult result (λ _. new ≡ old) (λ _. new ≢ old)

-- a write that answers Ok took an octet, where there was one
abbrev pub WritesSome : {E : Type 0} → Result ℕ E → List ℕ → Type 0
WritesSome result octets = IfOk result (λ count. 0 < length octets → 0 < count)
