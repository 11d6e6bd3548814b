-- What is read in the octets of a called number that was written.
use Rattle.std.proofs.Common.{◌≡◌, ℕ, ◌+◌, ◌*◌, ◌/◌, ◌%◌, ◌<◌, ◌≤◌, List, [], ◌∷◌, length, take, false, ap, refl, arith, Some}
use Rattle.std.specs.List.{All, flat_map}
use Rattle.std.proofs.lemmas.List.Elements.{All-tail}
use Rattle.std.proofs.lemmas.Bool.Decides.{nat_tests}
use Rattle.fp_digits.specs.Called.{octets_of_digits, called_octets}
use Rattle.fp_digits.specs.NatureOfAddress.{national}
use Rattle.fp_digits.specs.Number.{halves, digit_count, has_no_number, number_of}

-- two digits to an octet
pub length-octets_of_digits : (digits : List ℕ) → length (octets_of_digits digits) ≡ (length digits + 1) / 2
length-octets_of_digits [] = refl
length-octets_of_digits (last ∷ []) = refl
length-octets_of_digits (first ∷ second ∷ digits) = omega (arith, length-octets_of_digits digits)

-- a decimal digit
abbrev below_ten : ℕ → Type 0
below_ten digit = digit < 10

-- the halves of the octets are the digits, and perhaps a filler
halves_of_octets : (digits : List ℕ) → All (λ digit. digit < 10) digits → take (length digits) (flat_map halves (octets_of_digits digits)) ≡ digits
halves_of_octets [] decimal = refl
halves_of_octets (last ∷ []) decimal =
    let below : last < 10 = decimal 0 0 (omega arith) in ap (λ x. x ∷ []) (omega arith)
halves_of_octets (first ∷ second ∷ digits) decimal =
    let low : first < 10 = decimal 0 0 (omega arith) in
    let high : second < 10 = decimal 1 0 (omega arith) in
    let others : take (length digits) (flat_map halves (octets_of_digits digits)) ≡ digits =
    halves_of_octets digits (All-tail below_ten second digits (All-tail below_ten first (second ∷ digits) decimal)) in
    let first_is : (first + 16 * second) % 16 ≡ first = omega arith in
    let second_is : (first + 16 * second) / 16 ≡ second = omega arith in
    cc

-- as many digits are read as were written
digit_count-called_octets : (digits : List ℕ) → digit_count (called_octets digits) ≡ length digits
unfolding called_octets
digit_count-called_octets digits = omega (arith, length-octets_of_digits digits)

-- a written number is some number
has_no_number-called_octets : (digits : List ℕ) → 1 ≤ length digits → length digits ≤ 15 → has_no_number (called_octets digits) ≡ false
unfolding called_octets
has_no_number-called_octets digits some most = grind (arith, nat_tests, length-octets_of_digits)

-- a written number is read as the national number of its digits
pub reads_back : (digits octets : List ℕ) → octets ≡ called_octets digits → 1 ≤ length digits → length digits ≤ 15 → All (λ digit. digit < 10) digits → number_of octets ≡ Some (record { nature = national; digits = digits })
unfolding number_of called_octets
reads_back digits octets octets_are some most decimal =
    rw (octets_are, has_no_number-called_octets digits some most, digit_count-called_octets digits, halves_of_octets digits decimal)
    (ap (λ n. Some (record { nature = n; digits = digits })) (let nature : (128 * (length digits % 2) + national) % 128 ≡ national = omega arith in nature))
