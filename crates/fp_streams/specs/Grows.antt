-- A list of what happened, if it is reported.
use Rattle.std.specs.Prelude.{◌≡◌, ℕ, List, [], ◌∷◌, ◌++◌, Option, Some, None, Result, MatchResult, take, ⊤}

-- these come at the end of a reported list; or it is no longer reported, and then never again
abbrev pub Grows : {X : Type 0} → Option (List X) → Option (List X) → List X → Type 0
Grows None new more = new ≡ None
Grows (Some list) None more = ⊤
Grows (Some list) (Some all) more = all ≡ list ++ more

-- what a read gave comes after what those before it gave; a fault gave nothing
abbrev pub TellsPiece : {E : Type 0} → Option (List (List ℕ)) → Option (List (List ℕ)) → Result ℕ E → List ℕ → Type 0
TellsPiece old new result octets = MatchResult result (λ count. Grows old new (take count octets ∷ [])) (λ _. Grows old new [])
