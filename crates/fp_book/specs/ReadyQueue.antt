-- The order in which dialogues are served.
use Rattle.std.specs.Prelude.{◌≡◌, ℕ, List, [], Bool, not, ◌==◌, Option, Some, None}

-- another identifier than this one
abbrev pub is_other : ℕ → ℕ → Bool
is_other local other = not (other == local)

-- nothing is taken off only where there is nothing
abbrev pub IsEmptyIfNone : Option ℕ → List ℕ → Type 0
IsEmptyIfNone None queue = queue ≡ []
IsEmptyIfNone (Some local) queue = Unit {0}
