-- The contents octets of an integer (X.690, 8.3): two's complement, the most significant octet first. Here an
-- integer has one to four octets, minimal or not.
use Rattle.std.specs.Prelude.{ℕ, ℤ, pos, ◌+ℤ◌, ◌-ℤ◌, ◌*ℤ◌, List, [], ◌∷◌, Option, Some, None, nat_lt, if◌then◌else◌}

-- an octet whose first bit counts -128
abbrev pub signed : ℕ → ℤ
signed octet = if nat_lt octet 128 then pos octet else pos octet -ℤ pos 256

-- a number, and eight more bits behind it
abbrev pub with_octet : ℤ → ℕ → ℤ
with_octet high octet = (pos 256 *ℤ high) +ℤ pos octet

abbrev pub integer : List ℕ → Option ℤ
integer [] = None
integer (a ∷ []) = Some (signed a)
integer (a ∷ b ∷ []) = Some (with_octet (signed a) b)
integer (a ∷ b ∷ c ∷ []) = Some (with_octet (with_octet (signed a) b) c)
integer (a ∷ b ∷ c ∷ d ∷ []) = Some (with_octet (with_octet (with_octet (signed a) b) c) d)
integer (a ∷ b ∷ c ∷ d ∷ e ∷ others) = None
