-- How a number grows digit by digit, and what digits a text writes.
use Rattle.std.proofs.Common.{◌≡◌, ℕ, ◌+◌, ◌-◌, ◌*◌, ◌<◌, ◌≤◌, List, [], ◌∷◌, drop, length, map, get_or, Bool, true, false, ◌&&◌, Option, Some, None, nat_le, nat_lt, if◌then◌else◌, refl, arith, add-one}
use Rattle.std.specs.Char.{is_ascii_digit}
use Rattle.std.specs.List.{list_all}
use Rattle.std.proofs.lemmas.List.{drop_all}
use Rattle.std.proofs.Math.Seq.{drop-cons}
use Rattle.std.proofs.lemmas.Bool.Decides.{nat_tests}
use Rattle.std.proofs.lemmas.List.{length-map}
use Rattle.fp_records.specs.Digits.{digits_of, is_decimal}
use Rattle.fp_records.specs.Number.{number_after, number_up_to}

-- the number that a text makes after the digits of n, up to a limit
unfoldable pub up_to : ℕ → ℕ → List ℕ → Option ℕ
up_to most n text = if list_all is_ascii_digit text && nat_le (number_after n text) most then Some (number_after n text) else None

-- digits after a number make no less of it
pub grows-number_after : (n : ℕ) (text : List ℕ) → n ≤ number_after n text
grows-number_after n [] = omega arith
grows-number_after n (octet ∷ octets) = omega (arith, grows-number_after (10 * n + (octet - 48)) octets)

-- a number past the limit stays past it
pub up_to-over : (most n : ℕ) (text : List ℕ) → most < n → up_to most n text ≡ None
unfolding up_to
up_to-over most n text over =
    let more = grows-number_after n text in
    let refused : nat_le (number_after n text) most ≡ false = grind (arith, nat_tests) in
    rw refused (by (list_all is_ascii_digit text))
  where
    by : (b : Bool) → (if b && false then Some (number_after n text) else None) ≡ None
    by true = refl
    by false = refl

-- one more digit
pub up_to-more : (most n i : ℕ) (text : List ℕ) → i < length text → is_ascii_digit (get_or text i 0) ≡ true
    → up_to most n (drop i text) ≡ up_to most (10 * n + (get_or text i 0 - 48)) (drop (i + 1) text)
unfolding up_to
up_to-more most n i text within digit = rw (add-one, drop-cons text i 0, digit) refl

-- an octet that is no digit
pub up_to-letter : (most n i : ℕ) (text : List ℕ) → i < length text → is_ascii_digit (get_or text i 0) ≡ false → up_to most n (drop i text) ≡ None
unfolding up_to
up_to-letter most n i text within letter = rw (drop-cons text i 0, letter) refl

-- no digit is left
pub up_to-end : (most n i : ℕ) (text : List ℕ) → n ≤ most → length text ≤ i → up_to most n (drop i text) ≡ Some n
unfolding up_to
up_to-end most n i text low past =
    let accepted : nat_le n most ≡ true = grind (arith, nat_tests) in
    rw (drop_all i text past, accepted) refl

-- the number of a text is what it makes after no digit
pub up_to-whole : (most : ℕ) (text : List ℕ) → 0 < length text → number_up_to most text ≡ up_to most 0 text
unfolding up_to
up_to-whole most [] some = absurd (omega arith)
up_to-whole most (octet ∷ octets) some =
    let nonempty : nat_lt 0 (length (octet ∷ octets)) ≡ true = grind (arith, nat_tests) in
    rw nonempty refl

-- how a loop over the digits of a text steps
pub ruleset up_to_steps = (up_to-over, up_to-more, up_to-letter, up_to-end, up_to-whole)

-- the values of decimal digits
below_ten : (octets : List ℕ) → list_all is_ascii_digit octets ≡ true → list_all (λ digit. nat_lt digit 10) (map (λ octet. octet - 48) octets) ≡ true
below_ten [] all = refl
below_ten (octet ∷ octets) all = digit (is_ascii_digit octet) refl (λ rest. below_ten octets rest) all
  where
    digit : (here : Bool) → is_ascii_digit octet ≡ here → (list_all is_ascii_digit octets ≡ true → list_all (λ d. nat_lt d 10) (map (λ o. o - 48) octets) ≡ true)
        → (here && list_all is_ascii_digit octets) ≡ true → (nat_lt (octet - 48) 10 && list_all (λ d. nat_lt d 10) (map (λ o. o - 48) octets)) ≡ true
    digit true is more rest =
        let below : nat_lt (octet - 48) 10 ≡ true = grind (arith, nat_tests, is) in
        rw below (more rest)
    digit false is more rest = cc

-- the digits that a text of up to 15 writes are decimal ones
pub digits_of-decimal : (text digits : List ℕ) → digits_of text ≡ Some digits → is_decimal digits ≡ true
digits_of-decimal text digits is = by (nat_le (length text) 15) refl (list_all is_ascii_digit text) refl is
  where
    by : (short : Bool) → nat_le (length text) 15 ≡ short → (all : Bool) → list_all is_ascii_digit text ≡ all
        → (if short && all then Some (map (λ octet. octet - 48) text) else None) ≡ Some digits → is_decimal digits ≡ true
    by true few true all same =
        let digits_are : map (λ octet. octet - 48) text ≡ digits = cc same in
        rw (← digits_are, length-map, few, below_ten text all) refl
    by true few false all same = cc
    by false few all is_all same = cc
