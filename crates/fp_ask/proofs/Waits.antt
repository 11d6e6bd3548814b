-- How the number of a wait grows digit by digit.
use Rattle.std.proofs.Common.{◌≡◌, ℕ, ◌+◌, ◌-◌, ◌*◌, ◌<◌, ◌≤◌, ◌^◌, List, drop, length, get_or, true, false, Option, Some, None, nat_le, if◌then◌else◌, fold, refl, arith, add-one}
use Rattle.std.specs.Char.{is_ascii_digit}
use Rattle.std.specs.List.{list_all}
use Rattle.std.proofs.Math.Nat.{pow-suc, pow-le-pow_right}
use Rattle.std.proofs.Math.Seq.{drop-cons}
use Rattle.std.proofs.lemmas.Bool.Decides.{nat_tests}
use Rattle.std.proofs.lemmas.List.{drop_all}
use Rattle.fp_ask.specs.Line.{most_digits, wait_in}

-- the number that digits make after those of n
unfoldable pub waiting : ℕ → List ℕ → Option ℕ
waiting n digits = if list_all is_ascii_digit digits then Some (fold (λ m digit. 10 * m + (digit - 48)) n digits) else None

-- one digit more,
pub waiting-more : (n i : ℕ) (digits : List ℕ) → i < length digits → is_ascii_digit (get_or digits i 0) ≡ true
    → waiting n (drop i digits) ≡ waiting (10 * n + (get_or digits i 0 - 48)) (drop (i + 1) digits)
unfolding waiting
waiting-more n i digits within digit = rw (add-one, drop-cons digits i 0, digit) refl

-- another character,
pub waiting-letter : (n i : ℕ) (digits : List ℕ) → i < length digits → is_ascii_digit (get_or digits i 0) ≡ false → waiting n (drop i digits) ≡ None
unfolding waiting
waiting-letter n i digits within letter = rw (drop-cons digits i 0, letter) refl

-- and the end
pub waiting-end : (n i : ℕ) (digits : List ℕ) → length digits ≤ i → waiting n (drop i digits) ≡ Some n
unfolding waiting
waiting-end n i digits past = rw (drop_all i digits past) refl

-- the number of 1 to 13 digits is what they make after no digit
pub waiting-whole : (digits : List ℕ) → 0 < length digits → length digits ≤ most_digits → wait_in digits ≡ waiting 0 digits
unfolding waiting
waiting-whole digits some most =
    let low : nat_le 1 (length digits) ≡ true = grind (arith, nat_tests) in
    let high : nat_le (length digits) most_digits ≡ true = grind (arith, nat_tests) in
    rw (low, high) refl

-- fewer and more digits are no wait
pub wait_in-over : (digits : List ℕ) → most_digits < length digits → wait_in digits ≡ None
wait_in-over digits over =
    let low : nat_le 1 (length digits) ≡ true = grind (arith, nat_tests) in
    let high : nat_le (length digits) most_digits ≡ false = grind (arith, nat_tests) in
    rw (low, high) refl

-- one more digit makes a number of one more digit
pub more_digits : (n i d : ℕ) → n < 10 ^ i → d < 10 → 10 * n + d < 10 ^ (i + 1)
more_digits n i d low digit =
    let e = pow-suc 10 i in
    let e' : 10 ^ (i + 1) ≡ 10 ^ i * 10 = rw add-one e in
    omega (arith, e')

-- a number of 12 digits at most leaves room for one more
pub few_digits : (n i : ℕ) → n < 10 ^ i → i < most_digits → n < 1000000000000
few_digits n i low few =
    let most : 10 ^ i ≤ 10 ^ 12 = pow-le-pow_right {n = 10} (omega arith) {i = i} {j = 12} (omega arith) in
    let e : 10 ^ 12 ≡ 1000000000000 = refl in
    omega (arith, most, e)

pub ruleset waits = (waiting-more, waiting-letter, waiting-end, waiting-whole, wait_in-over, more_digits, few_digits)
