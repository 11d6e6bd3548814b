-- The frame in which a message of TCAP goes over a connection (own, in the place of SCCP): four octets of length, the
-- most significant first, and then as many octets of message.
use Rattle.std.specs.Prelude.{ℕ, ◌/◌, ◌%◌, ◌≤◌, List, [], ◌∷◌, ◌++◌, length}

-- how many octets a message may have
abbrev pub most_octets : ℕ
most_octets = 4096

-- how long a message may be
abbrev pub IsMessageLength : ℕ → Type 0
IsMessageLength length = (1 ≤ length) × (length ≤ most_octets)

-- the four digits of the length to the base 256
abbrev pub head_of : ℕ → List ℕ
head_of length = length / 16777216 % 256 ∷ length / 65536 % 256 ∷ length / 256 % 256 ∷ length % 256 ∷ []

-- the octets of a message as they go over a connection: its head, and then the message
abbrev pub framed : List ℕ → List ℕ
framed message = head_of (length message) ++ message
