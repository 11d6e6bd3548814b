-- What the contents octets of a called or a calling party number hold: ITU-T Q.763, 3.9 and 3.10.
use Rattle.std.specs.Prelude.{ℕ, ◌*◌, ◌-◌, ◌/◌, ◌%◌, Bool, ◌||◌, ◌&&◌, ◌==◌, nat_lt, if◌then◌else◌, List, [], ◌∷◌, length, take, drop, slice_index, Some, None}
use Rattle.std.specs.declared.option.Option.{Option}
use Rattle.std.specs.List.{flat_map}
use Rattle.fp_digits.specs.declared.number.Number.{Number}

-- the two digits of an octet, the first one in its low half
abbrev pub halves : ℕ → List ℕ
halves octet = octet % 16 ∷ octet / 16 ∷ []

-- the odd/even indicator, the top bit of the first octet: 1 for an odd number of digits, 0 for an even one
abbrev pub odd_indicator : List ℕ → ℕ
odd_indicator octets = slice_index octets 0 / 128

-- the nature of address, the other bits of the first octet
abbrev pub nature_in : List ℕ → ℕ
nature_in octets = slice_index octets 0 % 128

-- how many digits the octets from the third on hold: two each, and where the count is odd the high half of
-- the last octet is a filler
abbrev pub digit_count : List ℕ → ℕ
digit_count octets = 2 * (length octets - 2) - odd_indicator octets

abbrev pub digits_in : List ℕ → List ℕ
digits_in octets = take (digit_count octets) (flat_map halves (drop 2 octets))

-- too few octets, too many, or an odd number of digits and no octet for them
abbrev pub has_no_number : List ℕ → Bool
has_no_number octets =
    nat_lt (length octets) 2 || nat_lt 18 (length octets) || (odd_indicator octets == 1 && length octets == 2)

unfoldable pub number_of : List ℕ → Option Number
number_of octets =
    if has_no_number octets then None else Some (record { nature = nature_in octets; digits = digits_in octets })
