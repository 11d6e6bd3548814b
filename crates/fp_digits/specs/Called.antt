-- How a called party number is written: ITU-T Q.763, 3.9.
use Rattle.std.specs.Prelude.{ℕ, ◌+◌, ◌*◌, ◌%◌, List, [], ◌∷◌, length}
use Rattle.fp_digits.specs.NatureOfAddress.{national}

-- two digits in an octet, the first one in its low half; behind an odd number of digits the filler 0
abbrev pub octets_of_digits : List ℕ → List ℕ
octets_of_digits [] = []
octets_of_digits (last ∷ []) = last ∷ []
octets_of_digits (first ∷ second ∷ digits) = (first + 16 * second) ∷ octets_of_digits digits

-- the odd/even indicator and the nature of address, national; then 0x10, the numbering plan of E.164 with
-- routing to an internal network number allowed; then the digits
unfoldable pub called_octets : List ℕ → List ℕ
called_octets digits = (128 * (length digits % 2) + national) ∷ 0x10 ∷ octets_of_digits digits
