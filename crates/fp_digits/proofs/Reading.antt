-- What the reader found is what the octets hold.
use Rattle.std.proofs.Common.{◌≡◌, ℕ, ◌-◌, ◌*◌, ◌<◌, ◌≤◌, List, length, take, drop, ◌∙◌, sym, ap, refl, arith}
use Rattle.std.specs.Prelude.{Some, false}
use Rattle.std.specs.List.{flat_map}
use Rattle.std.proofs.lemmas.List.{take_rest, take_all, length-drop}
use Rattle.std.proofs.lemmas.Bool.Decides.{nat_tests}
use Rattle.fp_digits.specs.Number.{halves, odd_indicator, nature_in, digits_in, has_no_number, number_of}

-- 2 to 18 octets, with an octet for an odd number of digits
has_number : (octets : List ℕ) → 2 ≤ length octets → length octets ≤ 18 → (odd_indicator octets ≡ 1 → 2 < length octets) → has_no_number octets ≡ false
has_number octets enough most room = grind (arith, nat_tests)

-- the nature and the digits of such octets are their number
pub number_of-is : (octets digits : List ℕ) (nature : ℕ) → 2 ≤ length octets → length octets ≤ 18 → (odd_indicator octets ≡ 1 → 2 < length octets) → nature ≡ nature_in octets → digits ≡ digits_in octets → Some (record { nature = nature; digits = digits }) ≡ number_of octets
unfolding number_of
number_of-is octets digits nature enough most room nature_is digits_are =
    rw (has_number octets enough most room, nature_is, digits_are) refl

-- an odd number of digits: the last half is the filler
pub digits_in-odd : (octets digits left : List ℕ) → 2 ≤ length octets → digits ≡ flat_map halves (take (length octets - 2) (drop 2 octets)) → length digits ≡ 2 * length (take (length octets - 2) (drop 2 octets)) → odd_indicator octets ≡ 1 → left ≡ take (length digits - 1) digits → left ≡ digits_in octets
digits_in-odd octets digits left enough digits_are count odd left_is =
    let pairs : take (length octets - 2) (drop 2 octets) ≡ drop 2 octets = take_rest octets 2 in
    let all : digits ≡ flat_map halves (drop 2 octets) = digits_are ∙ ap (flat_map halves) pairs in
    let many : length digits ≡ 2 * (length octets - 2) =
    count ∙ ap (λ n. 2 * n) (ap length pairs ∙ length-drop 2 octets) in
    rw (odd, left_is, many, all) refl

-- an even number of digits: each half is one
pub digits_in-even : (octets digits : List ℕ) → digits ≡ flat_map halves (take (length octets - 2) (drop 2 octets)) → length digits ≡ 2 * length (take (length octets - 2) (drop 2 octets)) → odd_indicator octets ≡ 0 → digits ≡ digits_in octets
digits_in-even octets digits digits_are count even =
    let pairs : take (length octets - 2) (drop 2 octets) ≡ drop 2 octets = take_rest octets 2 in
    let all : digits ≡ flat_map halves (drop 2 octets) = digits_are ∙ ap (flat_map halves) pairs in
    let many : length digits ≡ 2 * (length octets - 2) =
    count ∙ ap (λ n. 2 * n) (ap length pairs ∙ length-drop 2 octets) in
    sym (rw (even, ← all) (take_all (2 * (length octets - 2) - 0) digits (omega arith)))
