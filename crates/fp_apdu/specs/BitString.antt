-- The contents octets of a bit string (X.690, 8.6.2), in the primitive form.
use Rattle.std.specs.Prelude.{◌≡◌, ℕ, ◌≤◌, List, [], ◌∷◌}

-- The initial octet says how many bits at the end of the last octet are unused, at most seven. Where no octet
-- follows there is no bit, and it says zero.
abbrev pub IsBitString : List ℕ → Type 0
IsBitString [] = ⊥
IsBitString (unused ∷ []) = unused ≡ 0
IsBitString (unused ∷ octet ∷ octets) = unused ≤ 7

-- the first bit, bit 8 of the octet behind the initial one, is there and set
abbrev pub HasFirstBit : List ℕ → Type 0
HasFirstBit [] = ⊥
HasFirstBit (unused ∷ []) = ⊥
HasFirstBit (unused ∷ octet ∷ octets) = 128 ≤ octet
