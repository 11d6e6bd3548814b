-- No octets with the value of a number are fewer than those that it is written in.
use Rattle.std.proofs.Common.{◌≡◌, ℕ, zero, suc, ℤ, pos, ◌^◌, ◌<◌, ◌≤◌, Bool, true, false, List, [], ◌∷◌, length, Some, All, refl, if◌then◌else◌, unsigned_abs, arith}
use Rattle.std.proofs.lemmas.Int.{ints}
use Rattle.std.specs.Int.{int_rem_euclid, bytes_high_first}
use Rattle.fp_ber.specs.Integer.{integer, signed, with_octet}
use Rattle.fp_q773.specs.TwosComplement.{is_within, least_count}
use Rattle.fp_q773.specs.Laws.{CodesAreLeast}
use Rattle.fp_q773.proofs.Integers.{within_three}

-- n octets to the base 256
bytes_count : (n x : ℕ) → length (bytes_high_first n x) ≡ n
bytes_count zero x = refl
bytes_count (suc n) x =
    let rest = bytes_count n x in omega arith

within_one : (n : ℤ) (a : ℕ) → a < 256 → signed a ≡ n → is_within 1 n ≡ true
within_one n a low is = grind (arith, ints)

within_two : (n h : ℤ) (a b : ℕ) → a < 256 → b < 256 → signed a ≡ h → n ≡ with_octet h b → is_within 2 n ≡ true
within_two n h a b la lb first is = grind (arith, ints)

-- the first of three tests that holds tells the count
abbrev count : Bool → Bool → Bool → ℕ
count one two three =
    if one then 1
    else if two then 2
    else if three then 3
    else 4

count_two : (one three : Bool) → count one true three ≤ 2
count_two true three = omega arith
count_two false three = omega arith

count_three : (one two : Bool) → count one two true ≤ 3
count_three true two = omega arith
count_three false true = omega arith
count_three false false = omega arith

count_four : (one two three : Bool) → count one two three ≤ 4
count_four true two three = omega arith
count_four false true three = omega arith
count_four false false true = omega arith
count_four false false false = omega arith

-- the count is at most that of any octets with the value
count_least : (octets : List ℕ) (n : ℤ) → All (λ octet. octet < 256) octets → integer octets ≡ Some n → least_count n ≤ length octets
count_least [] n all h = cc
count_least (a ∷ []) n all h =
    let is : signed a ≡ n = cc in rw (within_one n a (all 0 0 (omega arith)) is) (omega arith)
count_least (a ∷ b ∷ []) n all h =
    let is : n ≡ with_octet (signed a) b = cc in
    rw (within_two n (signed a) a b (all 0 0 (omega arith)) (all 1 0 (omega arith)) refl is) (count_two (is_within 1 n) (is_within 3 n))
count_least (a ∷ b ∷ c ∷ []) n all h =
    let is : n ≡ with_octet (with_octet (signed a) b) c = cc in
    let low = all 0 0 (omega arith) in
    rw (within_three n (with_octet (signed a) b) (signed a) a b c low (all 1 0 (omega arith)) (all 2 0 (omega arith)) refl refl is)
    (count_three (is_within 1 n) (is_within 2 n))
count_least (a ∷ b ∷ c ∷ d ∷ []) n all h = count_four (is_within 1 n) (is_within 2 n) (is_within 3 n)
count_least (a ∷ b ∷ c ∷ d ∷ e ∷ others) n all h = cc

pub codes_are_least : CodesAreLeast
codes_are_least octets n all h =
    let size = bytes_count (least_count n) (unsigned_abs (int_rem_euclid n (pos (256 ^ least_count n)))) in
    let few = count_least octets n all h in omega arith
