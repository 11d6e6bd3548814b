-- What reads gave, one after another, until no more was made.
use Rattle.std.specs.Prelude.{◌≡◌, ℕ, ◌<◌, ◌≤◌, List, [], ◌∷◌, Option, length}
use Rattle.std.specs.List.{flat_map}
use Rattle.std.specs.Io.KnownBytes.{IsAtEnd}

-- the octets of all pieces
abbrev pub joined : List (List ℕ) → List ℕ
joined pieces = flat_map (λ (piece : List ℕ). piece) pieces

-- how many octets one read of lines gives at most
abbrev pub most_read : ℕ
most_read = 4096

-- a read gave at least one octet, and at most this many
abbrev pub IsPiece : ℕ → List ℕ → Type 0
IsPiece most piece = (0 < length piece) × (length piece ≤ most)

-- one read more, still within the limit, gave no octets: the input ended
pub record IsEnd (reads count : ℕ) (left : Option (List ℕ)) (last : List (List ℕ)) : Type 0 where
  pub end : IsAtEnd left
  pub nothing : last ≡ [] ∷ []
  pub within : count < reads
