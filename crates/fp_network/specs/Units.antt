-- The names of units in the order in which their connections are preferred for sending.
use Rattle.std.specs.Prelude.{ℕ, List, [], ◌∷◌, ◌++◌}

-- the first name, which several nodes have in common, comes last
abbrev pub own_first : List (List ℕ) → List (List ℕ)
own_first [] = []
own_first (common ∷ others) = others ++ common ∷ []
