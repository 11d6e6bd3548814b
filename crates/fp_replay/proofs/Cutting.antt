-- Where a text is cut at its first octet of a kind, and which texts have none.
use Rattle.std.proofs.Common.{◌≡◌, ◌≢◌, ◌^◌, decimal, inl, inr, ℕ, ◌+◌, ◌-◌, ◌<◌, ◌/◌, ◌%◌, List, [], ◌∷◌, ◌++◌, length, get_or, slice_index, take, drop, Some, refl, sym, ap, ◌∙◌, arith}
use Rattle.std.proofs.lemmas.Bool.{cases_lt}
use Rattle.std.proofs.lemmas.Fmt.{decimal_injective, decimal_is_IsNumeral}
use Rattle.std.proofs.lemmas.List.{take_all, drop_more, take-append-drop, length-drop, get_or_past}
use Rattle.std.proofs.lemmas.List.Elements.{All-cons, All-from_get_or, All-head, All-nil, All-tail}
use Rattle.std.proofs.lemmas.Str.Parse.{digit_at}
use Rattle.std.specs.List.{All, join_with_byte}
use Rattle.hex.specs.Hex.{encode_upper, encode_with, hex_digit_value, upper_digits}
use Rattle.hex.proofs.HexLemmas.{IsDigits-upper_digits}
use Rattle.fp_replay.specs.proof_only.Fields.{IsField}

-- this octet isn't in a text
abbrev pub Without : ℕ → List ℕ → Type 0
Without octet text = All (λ o. o ≢ octet) text

-- a text is what stands before a blank, the blank, and what stands behind it
pub cut_at : (text : List ℕ) (i n : ℕ) → i < length text → get_or text i 0 ≡ 32 → n ≡ length text - (i + 1)
    → text ≡ take i text ++ 32 ∷ take n (drop (i + 1) text)
cut_at text i n lt is size =
    let rest = drop_more text i 0 lt in
    let whole : take n (drop (i + 1) text) ≡ drop (i + 1) text = take_all n (drop (i + 1) text) (omega (arith, length-drop (i + 1) text)) in
    let behind : drop i text ≡ 32 ∷ take n (drop (i + 1) text) = rw (whole, rest, is) refl in
    sym (take-append-drop i text) ∙ ap (λ (x : List ℕ). take i text ++ x) behind

-- a text with a blank is no field
pub no_field : (a b : List ℕ) → IsField (a ++ 32 ∷ b) → ⊥
no_field [] b field = All-head (λ octet. octet ≢ 32) 32 b field refl
no_field (x ∷ a) b field = no_field a b (All-tail (λ octet. octet ≢ 32) x (a ++ 32 ∷ b) field)

-- a text is cut in one way at its first octet of a kind
pub one_cut : (octet : ℕ) (a b x y : List ℕ) → Without octet a → Without octet x → a ++ octet ∷ b ≡ x ++ octet ∷ y → (a ≡ x) × (b ≡ y)
one_cut octet [] b [] y p q e = (refl, cc)
one_cut octet [] b (o ∷ x) y p q e = absurd (All-head (λ o. o ≢ octet) o x q (cc))
one_cut octet (o ∷ a) b [] y p q e = absurd (All-head (λ o. o ≢ octet) o a p (cc))
one_cut octet (o ∷ a) b (u ∷ x) y p q e =
    let rest : a ++ octet ∷ b ≡ x ++ octet ∷ y = cc in
    let parts = one_cut octet a b x y (All-tail (λ o. o ≢ octet) o a p) (All-tail (λ o. o ≢ octet) u x q) rest in
    (cc (parts.0), parts.1)

-- an octet below the digits has no value
no_value : (c v : ℕ) → c < 48 → hex_digit_value c ≡ Some v → ⊥
no_value c v low e = grind (arith)

module _ (octet : ℕ) (some : 0 < octet) (low : octet < 48) where
  -- a number has no octet below the digits
  pub decimal_without : (n : ℕ) → n < 2 ^ 64 → Without octet (decimal n)
  decimal_without n fits =
      All-from_get_or (λ o. o ≢ octet) (decimal n) 0
      (λ i within e. let digit = digit_at (decimal n) i (decimal_is_IsNumeral n fits).0.1 within in omega arith)

  -- nor has a hexadecimal digit
  digit_without : (v : ℕ) → slice_index upper_digits v ≢ octet
  digit_without v e =
      elim (cases_lt v 16) [
        | inl digit ↦ no_value (slice_index upper_digits v) v (omega arith) (IsDigits-upper_digits v digit)
        | inr past ↦ omega (arith, get_or_past upper_digits v 0 past)
      ]

  -- nor have octets as they are written
  pub octets_without : (octets : List ℕ) → Without octet (encode_upper octets)
  unfolding encode_with
  octets_without [] = All-nil (λ o. o ≢ octet)
  octets_without (o ∷ octets) =
      All-cons (λ o. o ≢ octet) (slice_index upper_digits (o / 16)) (slice_index upper_digits (o % 16) ∷ encode_upper octets) (digit_without (o / 16))
      (All-cons (λ o. o ≢ octet) (slice_index upper_digits (o % 16)) (encode_upper octets) (digit_without (o % 16)) (octets_without octets))

-- a number has no blank
pub decimal_is_field : (n : ℕ) → n < 2 ^ 64 → IsField (decimal n)
decimal_is_field n fits = decimal_without 32 (omega arith) (omega arith) n fits

-- nor have octets
pub octets_are_field : (octets : List ℕ) → IsField (encode_upper octets)
octets_are_field octets = octets_without 32 (omega arith) (omega arith) octets

-- a number, and what comes after it
pub one_number : (m n : ℕ) (a b : List ℕ) → m < 2 ^ 64 → n < 2 ^ 64 → decimal m ++ 32 ∷ a ≡ decimal n ++ 32 ∷ b → (m ≡ n) × (a ≡ b)
one_number m n a b p q e =
    let parts = one_cut 32 (decimal m) a (decimal n) b (decimal_is_field m p) (decimal_is_field n q) e in
    (decimal_injective m n p q parts.0, parts.1)

-- three fields that are told are those of the text
pub three_joined : (fields a b c x y z : List ℕ) → fields ≡ 32 ∷ join_with_byte 32 (a ∷ b ∷ c ∷ [])
    → a ≡ x → b ≡ y → c ≡ z → fields ≡ 32 ∷ join_with_byte 32 (x ∷ y ∷ z ∷ [])
three_joined fields a b c x y z e p q r = cc

-- and so are four
pub four_joined : (fields a b c d x y z v : List ℕ) → fields ≡ 32 ∷ join_with_byte 32 (a ∷ b ∷ c ∷ d ∷ [])
    → a ≡ x → b ≡ y → c ≡ z → d ≡ v → fields ≡ 32 ∷ join_with_byte 32 (x ∷ y ∷ z ∷ v ∷ [])
four_joined fields a b c d x y z v e p q r s = cc
