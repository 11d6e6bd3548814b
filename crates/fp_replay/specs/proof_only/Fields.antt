-- Fields, and where they end.
use Rattle.std.specs.Prelude.{ℕ, ◌≢◌, List, All}

-- no blank stands in it
abbrev pub IsField : List ℕ → Type 0
IsField text = All (λ octet. octet ≢ 32) text
