-- Numbers and the octets that stand for them.
use Rattle.std.proofs.Common.{◌≡◌, ℕ, ℤ, pos, ◌+ℤ◌, ◌-ℤ◌, ◌+◌, ◌*◌, ◌/◌, ◌%◌, ◌<◌, ◌⊎◌, inl, inr, refl, List, [], ◌∷◌, Some, sym, ap, Bool, true, false, nat_lt, if◌then◌else◌, unsigned_abs, ◌++◌, Result, OnOk, subst, mod-eq_of_lt, arith}
use Rattle.std.proofs.lemmas.Int.{ints, int_rem_euclid_is}
use Rattle.std.specs.Int.{int_rem_euclid, bytes_high_first}
use Rattle.fp_ber.specs.declared.element.Class.TheVariants.{Universal}
use Rattle.fp_ber.specs.Tree.{primitive}
use Rattle.fp_ber.specs.Canon.{canon}
use Rattle.fp_ber.specs.Integer.{integer, signed, with_octet}
use Rattle.fp_q773.specs.TwosComplement.{is_within, least_octets}
use Rattle.fp_q773.specs.Value.{local}
use Rattle.fp_q773.specs.Written.{code_tree}
use Rattle.fp_q773.specs.Grammar.{IsCode}

-- four octets
pub four_octets : (n f g h : ℤ) (a b c d : ℕ) → signed a ≡ h → g ≡ with_octet h b → f ≡ with_octet g c → n ≡ with_octet f d
    → integer (a ∷ b ∷ c ∷ d ∷ []) ≡ Some n
four_octets n f g h a b c d first second third is = rw (first, ← second, ← third) (ap (λ (z : ℤ). Some z) (sym is))

-- three octets
pub three_octets : (n g h : ℤ) (a b c : ℕ) → signed a ≡ h → g ≡ with_octet h b → n ≡ with_octet g c → integer (a ∷ b ∷ c ∷ []) ≡ Some n
three_octets n g h a b c first second is = rw (first, ← second) (ap (λ (z : ℤ). Some z) (sym is))

-- a number is this remainder of a division by size, or lies size below it
abbrev Leaves : ℤ → ℕ → ℕ → Type 0
Leaves z size r = (z ≡ pos r) ⊎ (z +ℤ pos size ≡ pos r)

-- then it is the number modulo size
leaves : (z : ℤ) (size r : ℕ) → r < size → Leaves z size r → unsigned_abs (int_rem_euclid z (pos size)) ≡ r
leaves z size r low (inl h) = rw h (mod-eq_of_lt low)
leaves z size r low (inr h) =
    let is : int_rem_euclid z (pos size) ≡ pos (r % size) = int_rem_euclid_is z (pos size) size 1 r (omega arith) refl (omega (arith, ints)) in
    rw is (mod-eq_of_lt low)

-- the value of one octet
first_leaves : (b : Bool) (a : ℕ) (z : ℤ) → (if b then pos a else (pos a -ℤ pos 256)) ≡ z → Leaves z 256 a
first_leaves true a z h = inl (sym h)
first_leaves false a z h = inr (omega (arith, ints))

-- one more octet
next_leaves : (n h : ℤ) (size r b : ℕ) → Leaves h size r → n ≡ with_octet h b → Leaves n (256 * size) (256 * r + b)
next_leaves n h size r b (inl e) is = inl (omega (arith, ints))
next_leaves n h size r b (inr e) is = inr (omega (arith, ints))

-- a number beyond one octet is, with one more octet, beyond two
beyond_two : (n h : ℤ) (b : ℕ) → b < 256 → n ≡ with_octet h b → is_within 1 h ≡ false → is_within 2 n ≡ false
beyond_two n h b low is none = grind (arith, ints)

-- and with two more beyond three
beyond_three : (n g h : ℤ) (b c : ℕ) → b < 256 → c < 256 → g ≡ with_octet h b → n ≡ with_octet g c → is_within 1 h ≡ false → is_within 3 n ≡ false
beyond_three n g h b c lb lc is next none = grind (arith, ints)

-- four octets, the most significant first
four_digits : (a b c d x : ℕ) → a < 256 → b < 256 → c < 256 → d < 256 → x ≡ 256 * (256 * (256 * a + b) + c) + d
    → a ∷ b ∷ c ∷ d ∷ [] ≡ bytes_high_first 4 x
four_digits a b c d x la lb lc ld is =
    let p : x / 16777216 % 256 ≡ a = omega arith in
    let q : x / 65536 % 256 ≡ b = omega arith in
    let r : x / 256 % 256 ≡ c = omega arith in
    let s : x % 256 ≡ d = omega arith in rw (p, q, r, s) refl

-- the four octets of a number that three don't say
pub four_least : (n f g h : ℤ) (a b c d : ℕ) → a < 256 → b < 256 → c < 256 → d < 256
    → signed a ≡ h → g ≡ with_octet h b → f ≡ with_octet g c → n ≡ with_octet f d
    → is_within 1 n ≡ false → is_within 1 f ≡ false → is_within 1 g ≡ false → a ∷ b ∷ c ∷ d ∷ [] ≡ least_octets n
four_least n f g h a b c d la lb lc ld first second third is over over' over'' =
    let one = first_leaves (nat_lt a 128) a h first in
    let two = next_leaves g h 256 a b one second in
    let three = next_leaves f g 65536 (256 * a + b) c two third in
    let four = next_leaves n f 16777216 (256 * (256 * a + b) + c) d three is in
    let x = leaves n 4294967296 (256 * (256 * (256 * a + b) + c) + d) (omega arith) four in
    rw (over, beyond_two n f d ld is over', beyond_three n f g c d lc ld third is over'') (four_digits a b c d _ la lb lc ld x)

-- a number that three octets say
pub within_three : (n g h : ℤ) (a b c : ℕ) → a < 256 → b < 256 → c < 256 → signed a ≡ h → g ≡ with_octet h b → n ≡ with_octet g c → is_within 3 n ≡ true
within_three n g h a b c la lb lc first second is = grind (arith, ints)

-- three octets, the most significant first
three_digits : (a b c x : ℕ) → a < 256 → b < 256 → c < 256 → x ≡ 256 * (256 * a + b) + c → a ∷ b ∷ c ∷ [] ≡ bytes_high_first 3 x
three_digits a b c x la lb lc is =
    let p : x / 65536 % 256 ≡ a = omega arith in
    let q : x / 256 % 256 ≡ b = omega arith in
    let r : x % 256 ≡ c = omega arith in rw (p, q, r) refl

-- the three octets of a number that two don't say
pub three_least : (n g h : ℤ) (a b c : ℕ) → a < 256 → b < 256 → c < 256 → signed a ≡ h → g ≡ with_octet h b → n ≡ with_octet g c
    → is_within 1 n ≡ false → is_within 1 g ≡ false → a ∷ b ∷ c ∷ [] ≡ least_octets n
three_least n g h a b c la lb lc first second is over over' =
    let one = first_leaves (nat_lt a 128) a h first in
    let two = next_leaves g h 256 a b one second in
    let three = next_leaves n g 65536 (256 * a + b) c two is in
    let x = leaves n 16777216 (256 * (256 * a + b) + c) (omega arith) three in
    rw (over, beyond_two n g c lc is over', within_three n g h a b c la lb lc first second is) (three_digits a b c _ la lb lc x)

-- the least octets of a number, once they are put
pub by_least : {T E : Type 0} (r : Result T E) (new old octets : List ℕ) (n : ℤ) → octets ≡ least_octets n
    → OnOk r (new ≡ canon (primitive Universal 2 octets) ++ old) → OnOk r (new ≡ canon (code_tree (local n)) ++ old)
by_least r new old octets n is h = subst (λ o. OnOk r (new ≡ canon (primitive Universal 2 o) ++ old)) is h

-- the code that they are read as
pub read_least : (octets : List ℕ) (n : ℤ) → octets ≡ least_octets n → integer octets ≡ Some n → IsCode (code_tree (local n)) (local n)
read_least octets n is h = (least_octets n, refl, subst (λ o. integer o ≡ Some n) is h)
