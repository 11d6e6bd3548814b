-- The codes of digits: their order, and that digits come back.
use Rattle.std.proofs.Common.{◌≡◌, ℕ, zero, suc, ◌+◌, ◌-◌, ◌*◌, ◌/◌, ◌%◌, ◌^◌, ◌<◌, ◌≤◌, ◌==◌, Bool, true, false, List, [], ◌∷◌, drop, length, slice_index, if◌then◌else◌, refl, ap, ◌∙◌, arith}
use Rattle.std.specs.Cmp.Lexicographic.{slice_cmp}
use Rattle.std.specs.List.{All}
use Rattle.std.specs.Ordering.{nat_cmp, ordering_then}
use Rattle.std.specs.declared.cmp.Ordering.{Ordering}
use Rattle.std.specs.declared.cmp.Ordering.TheVariants.{Less, Equal, Greater}
use Rattle.std.proofs.Math.Nat.{mod-lt, mul_assoc, one-le-pow, pow-suc}
use Rattle.std.proofs.lemmas.Bool.Decides.{nat_tests}
use Rattle.std.proofs.lemmas.List.{drop_more}
use Rattle.std.proofs.lemmas.List.Elements.{All-rest}
use Rattle.std.proofs.lemmas.Nat.{div-add-mod', div-mul-add, mod-mul-add, mul-add-lt}
use Rattle.fp_records.specs.Code.{AreDigits, code_of, digits_of_code}

-- a code fits into its places
pub code_below : (places : ℕ) (digits : List ℕ) → AreDigits places digits → code_of places digits < 16 ^ places
unfolding code_of AreDigits
code_below zero digits are = one-le-pow 0 16 (omega arith)
code_below (suc places) [] are = one-le-pow (suc places) 16 (omega arith)
code_below (suc places) (digit ∷ digits) are =
    let rest = code_below places digits are.1 in
    let wide : digit + 1 < 16 = omega (arith, are.0) in
    let all = mul-add-lt (digit + 1) (16 ^ places) (code_of places digits) 16 wide rest in
    rw (pow-suc 16 places) all

-- what the highest place says of two codes
highest : (width x y r s : ℕ) → r < width → s < width → nat_cmp ((x + 1) * width + r) ((y + 1) * width + s) ≡ ordering_then (nat_cmp x y) (nat_cmp r s)
highest width x y r s r_fits s_fits = by (nat_cmp x y) refl
  where
    by : (order : Ordering) → nat_cmp x y ≡ order → nat_cmp ((x + 1) * width + r) ((y + 1) * width + s) ≡ ordering_then order (nat_cmp r s)
    by Less is =
        let less : x + 1 < y + 1 = grind (arith, nat_tests, is) in
        let below = mul-add-lt (x + 1) width r (y + 1) less r_fits in
        grind (arith, nat_tests, below)
    by Equal is =
        let same : x ≡ y = grind (arith, nat_tests, is) in
        rw same (grind (arith, nat_tests))
    by Greater is =
        let less : y + 1 < x + 1 = grind (arith, nat_tests, is) in
        let below = mul-add-lt (y + 1) width s (x + 1) less s_fits in
        grind (arith, nat_tests, below)

-- codes are in the order of their digits
pub code_order : (places : ℕ) (a b : List ℕ) → AreDigits places a → AreDigits places b → nat_cmp (code_of places a) (code_of places b) ≡ slice_cmp nat_cmp a b
unfolding code_of AreDigits
code_order zero [] [] of_a of_b = refl
code_order zero [] (y ∷ b) of_a of_b = absurd of_b
code_order zero (x ∷ a) [] of_a of_b = absurd of_a
code_order zero (x ∷ a) (y ∷ b) of_a of_b = absurd of_a
code_order (suc places) [] [] of_a of_b = refl
code_order (suc places) [] (y ∷ b) of_a of_b =
    let wide = one-le-pow places 16 (omega arith) in
    let more = mul-add-lt 0 (16 ^ places) 0 (y + 1) (omega arith) (omega (arith, wide)) in
    grind (arith, nat_tests, more)
code_order (suc places) (x ∷ a) [] of_a of_b =
    let wide = one-le-pow places 16 (omega arith) in
    let more = mul-add-lt 0 (16 ^ places) 0 (x + 1) (omega arith) (omega (arith, wide)) in
    grind (arith, nat_tests, more)
code_order (suc places) (x ∷ a) (y ∷ b) of_a of_b =
    highest (16 ^ places) x y (code_of places a) (code_of places b) (code_below places a of_a.1) (code_below places b of_b.1)
    ∙ ap (ordering_then (nat_cmp x y)) (code_order places a b of_a.1 of_b.1)

-- the digits of the code of digits
pub digits_again : (places : ℕ) (digits : List ℕ) → AreDigits places digits → digits_of_code places (code_of places digits) ≡ digits
unfolding code_of digits_of_code AreDigits
digits_again zero [] are = refl
digits_again zero (digit ∷ digits) are = absurd are
digits_again (suc places) [] are =
    let wide = one-le-pow places 16 (omega arith) in
    let nothing : 0 * 16 ^ places + 0 ≡ 0 = omega arith in
    let none = rw nothing at (div-mul-add 0 (16 ^ places) 0 (omega (arith, wide))) in
    rw none refl
digits_again (suc places) (digit ∷ digits) are =
    let rest = code_below places digits are.1 in
    let high = div-mul-add (digit + 1) (16 ^ places) (code_of places digits) rest in
    let low = mod-mul-add (digit + 1) (16 ^ places) (code_of places digits) rest in
    let some : (digit + 1 == 0) ≡ false = grind (arith, nat_tests) in
    let one : digit + 1 - 1 ≡ digit = omega arith in
    rw (high, low, some, one, digits_again places digits are.1) refl

-- few decimal digits are that
pub are_digits : (places : ℕ) (digits : List ℕ) → length digits ≤ places → All (λ digit. digit < 10) digits → AreDigits places digits
unfolding AreDigits
are_digits places [] fits all = tt
are_digits zero (digit ∷ digits) fits all = absurd (omega (arith, fits))
are_digits (suc places) (digit ∷ digits) fits all = (
  all 0 0 (omega arith),
  are_digits places digits (omega (arith, fits)) (All-rest (λ d. d < 10) digit digits (digit ∷ digits) refl all),
)

-- no digits
pub code_of_none : (places : ℕ) → code_of places [] ≡ 0
unfolding code_of
code_of_none zero = refl
code_of_none (suc places) = refl

-- the place of one more digit
pub next_place : (i place : ℕ) → i < 15 → place ≡ 16 ^ (15 - i) → place / 16 ≡ 16 ^ (15 - (i + 1))
next_place i place fits is =
    let rest : ℕ = 15 - (i + 1) in
    let left : 15 - i ≡ suc rest = omega (arith, fits) in
    let width = is ∙ ap (λ n. 16 ^ n) left ∙ pow-suc 16 rest in
    let wide : place ≡ 16 ^ rest * 16 + 0 = omega (arith, width) in
    rw wide (div-mul-add (16 ^ rest) 16 0 (omega arith))

code_of_more : (places digit : ℕ) (rest : List ℕ) → code_of (suc places) (digit ∷ rest) ≡ (digit + 1) * 16 ^ places + code_of places rest
unfolding code_of
code_of_more places digit rest = refl

-- the code with one more digit
pub next_digit : (digits : List ℕ) (i code : ℕ) → i < length digits → length digits ≤ 15 → code + code_of (15 - i) (drop i digits) ≡ code_of 15 digits
    → code + (slice_index digits i + 1) * 16 ^ (15 - (i + 1)) + code_of (15 - (i + 1)) (drop (i + 1) digits) ≡ code_of 15 digits
next_digit digits i code fits few so_far =
    let left : 15 - i ≡ suc (15 - (i + 1)) = omega (arith, fits, few) in
    let one = rw (left, drop_more digits i 0 fits) at so_far in
    omega (arith, rw (code_of_more (15 - (i + 1)) (slice_index digits i) (drop (i + 1) digits)) at one)

-- no more digits than places
pub few_digits : (places code : ℕ) → length (digits_of_code places code) ≤ places
unfolding digits_of_code
few_digits zero code = omega arith
few_digits (suc places) code = by (code / 16 ^ places == 0) (few_digits places (code % 16 ^ places))
  where
    by : (none : Bool) → length (digits_of_code places (code % 16 ^ places)) ≤ places
        → length (if none then [] else (code / 16 ^ places - 1) ∷ digits_of_code places (code % 16 ^ places)) ≤ suc places
    by true more = omega arith
    by false more = omega (arith, more)

-- with one more place
are-more : (places : ℕ) (digits : List ℕ) → AreDigits places digits → AreDigits (suc places) digits
unfolding AreDigits
are-more places [] are = tt
are-more zero (digit ∷ digits) are = absurd are
are-more (suc places) (digit ∷ digits) are = (are.0, are-more places digits are.1)

-- a code that is moved up by one place has the same digits
moved : (places code : ℕ) → code < 16 ^ places → digits_of_code (suc places) (16 * code) ≡ digits_of_code places code
unfolding digits_of_code
moved zero code fits =
    let none : code ≡ 0 = omega (arith, fits) in
    rw none refl
moved (suc places) code fits =
    let width : ℕ = 16 ^ places in
    let low : code % width < width = mod-lt code (omega (arith, one-le-pow places 16 (omega arith))) in
    let parts = div-add-mod' code width in
    let wide : 16 ^ suc places ≡ width * 16 = pow-suc 16 places in
    let product = mul_assoc (code / width) width 16 in
    let split : 16 * code ≡ (code / width) * (width * 16) + 16 * (code % width) = omega (arith, product, parts) in
    let below : 16 * (code % width) < width * 16 = omega (arith, low) in
    let high = rw (← split) at (div-mul-add (code / width) (width * 16) (16 * (code % width)) below) in
    let rest = rw (← split) at (mod-mul-add (code / width) (width * 16) (16 * (code % width)) below) in
    rw (wide, high, rest, moved places (code % width) low) refl

-- the first digit of a code, and the code of the others
pub first_digit : (code : ℕ) → (code / 72057594037927936 == 0) ≡ false
    → digits_of_code 15 code ≡ (code / 72057594037927936 - 1) ∷ digits_of_code 15 (16 * (code % 72057594037927936))
unfolding digits_of_code
first_digit code some =
    let low : code % 16 ^ 14 < 16 ^ 14 = mod-lt code (omega (arith, one-le-pow 14 16 (omega arith))) in
    rw (some, moved 14 (code % 16 ^ 14) low) refl

-- there is none
pub no_digit : (code : ℕ) → (code / 72057594037927936 == 0) ≡ true → digits_of_code 15 code ≡ []
unfolding digits_of_code
no_digit code none = rw none refl

-- what is so of the first digit, and of the others
pub parts_are : (digit : ℕ) (digits : List ℕ) → AreDigits 15 (digit ∷ digits) → (digit < 10) × AreDigits 15 digits
unfolding AreDigits
parts_are digit digits are = (are.0, are-more 14 digits are.1)
