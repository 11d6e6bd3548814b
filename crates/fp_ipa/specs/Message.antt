-- A message of IPA: the number of its octets, in two octets with the most significant one first, the stream to which it
-- belongs, in one octet, and its octets.
use Rattle.std.specs.Prelude.{ℕ, ◌/◌, ◌%◌, ◌≤◌, List, [], ◌∷◌, ◌++◌, length}

-- the most octets of a message that is taken
abbrev pub most_octets : ℕ
most_octets = 4096

pub record Message : Type 0 where
  pub stream : ℕ
  pub octets : List ℕ

-- a message is short enough to be taken
abbrev pub IsTaken : Message → Type 0
IsTaken message = length message.octets ≤ most_octets

abbrev pub head_of : ℕ → ℕ → List ℕ
head_of stream size = size / 256 ∷ size % 256 ∷ stream ∷ []

-- the octets of a message as they go over a connection
abbrev pub framed : Message → List ℕ
framed message = head_of message.stream (length message.octets) ++ message.octets
