-- The lines of octets: a line feed (10) ends each, and is no part of it; the last line ends at the end of the octets,
-- too.
use Rattle.std.specs.Prelude.{ℕ, ◌≢◌, ◌==◌, ◌<◌, if◌then◌else◌, List, [], ◌∷◌, ◌++◌, length, All}

-- the line that the end of the octets ends, none where nothing was begun
abbrev pub last_line : List ℕ → List (List ℕ)
last_line [] = []
last_line (octet ∷ octets) = (octet ∷ octets) ∷ []

-- the lines of octets, where the first line was begun before
abbrev pub lines_from : List ℕ → List ℕ → List (List ℕ)
lines_from begun [] = last_line begun
lines_from begun (octet ∷ octets) =
    if octet == 10 then begun ∷ lines_from [] octets else lines_from (begun ++ octet ∷ []) octets

-- the lines of octets
abbrev pub lines_of : List ℕ → List (List ℕ)
lines_of octets = lines_from [] octets

-- octets without a line feed
abbrev pub IsOneLine : List ℕ → Type 0
IsOneLine octets = All (λ octet. octet ≢ 10) octets

-- there is a first line, and it is longer than this
abbrev pub BeginsLong : ℕ → List (List ℕ) → Type 0
BeginsLong most [] = ⊥
BeginsLong most (line ∷ lines) = most < length line
