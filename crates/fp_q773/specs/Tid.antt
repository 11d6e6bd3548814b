-- Transaction identifiers (Q.773, 4.2.1.3).
use Rattle.std.specs.Prelude.{ℕ, ◌≤◌, ◌/◌, ◌%◌, List, [], ◌∷◌, length}

-- these octets may be an identifier
abbrev pub IsTid : List ℕ → Type 0
IsTid octets = (1 ≤ length octets) × (length octets ≤ 4)

-- an identifier is its octets
abbrev pub Tid : Type 0
Tid = List ℕ

abbrev pub octets_of : Tid → List ℕ
octets_of tid = tid

-- the identifier of a number: four octets, the most significant one first
abbrev pub octets_of_number : ℕ → List ℕ
octets_of_number number = number / 16777216 % 256 ∷ number / 65536 % 256 ∷ number / 256 % 256 ∷ number % 256 ∷ []
