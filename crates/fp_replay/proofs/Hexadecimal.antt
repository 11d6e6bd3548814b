-- Hexadecimal digits in upper case: what is read of them, and what is written.
use Rattle.std.proofs.Common.{◌⊎◌, inl, inr, ◌≡◌, ℕ, zero, suc, ◌+◌, ◌*◌, ◌/◌, ◌%◌, ◌<◌, ◌≤◌, ltb, true, List, [], ◌∷◌, slice_index, Option, Some, None, Result, Ok, Err, refl, sym, ap, ◌∙◌, arith}
use Rattle.std.specs.Prelude.{EachIndex}
use Rattle.std.specs.Int.{w32, from_be_bytes, to_be_bytes}
use Rattle.std.specs.Result.{result_unwrap_or}
use Rattle.std.proofs.lemmas.Nat.{be_bytes_4}
use Rattle.hex.specs.Hex.{IsBytes, decode_of, decode_pairs, decode_sized, digit_or_error, encode_upper, encode_with, hex_digit_value, pair_value, upper_digits, value_at, ◌>>=◌}
use Rattle.hex.specs.declared.error.FromHexError.{FromHexError}
use Rattle.std.proofs.lemmas.List.{get_or_past}
use Rattle.std.proofs.lemmas.Bool.{cases_lt, ltb-true}
use Rattle.std.proofs.lemmas.List.Elements.{All-get_or}
use Rattle.std.proofs.lemmas.List.Sums.{AllPass-from_list_all}
use Rattle.hex.proofs.HexLemmas.{IsDigits-upper_digits, decode_of-encode_upper, decode_of-even, decode_of-ok, decode_sized-ok, decode_sized-twice, length-encode_with}
use Rattle.fp_replay.specs.Format.{identifier_text}

-- each stands before the letters in lower case
abbrev pub IsUpperCase : List ℕ → Type 0
IsUpperCase text = EachIndex text (λ k. slice_index text k < 97)

-- what an `Ok` behind a step shows
bind_ok : {A B : Type 0} (r : Result A FromHexError) (f : A → Result B FromHexError) (y : B)
    → (r >>= f) ≡ Ok y → (x : A) × (r ≡ Ok x) × (f x ≡ Ok y)
bind_ok (Ok x) f y h = (x, refl, h)
bind_ok (Err e) f y h = cc h

-- the value of a digit that was read
digit_read : (c i : ℕ) (o : Option ℕ) (v : ℕ) → digit_or_error c i o ≡ Ok v → o ≡ Some v
digit_read c i (Some w) v h = ap Some (ap (λ (r : Result ℕ FromHexError). result_unwrap_or r 0) h)
digit_read c i None v h = cc h

-- the digits that are written stand before the letters in lower case
digit_below : (v : ℕ) → slice_index upper_digits v < 97
digit_below v =
    elim (cases_lt v 16) [
      | inl digit ↦
          ltb-true (slice_index upper_digits v) 97
          (All-get_or (λ o. ltb o 97 ≡ true) upper_digits v 0 digit (AllPass-from_list_all (λ o. ltb o 97) upper_digits refl))
      | inr past ↦ omega (arith, get_or_past upper_digits v 0 past)
    ]

-- a digit in upper case has a value, and is the digit of that value
value_of_digit : (c v : ℕ) → c < 97 → hex_digit_value c ≡ Some v → ((v < 10) × (48 + v ≡ c)) ⊎ ((10 ≤ v) × (v < 16) × (55 + v ≡ c))
value_of_digit c v h e = grind (arith)

one_digit : (c d v : ℕ) → ((v < 10) × (48 + v ≡ c)) ⊎ ((10 ≤ v) × (v < 16) × (55 + v ≡ c)) → ((v < 10) × (48 + v ≡ d)) ⊎ ((10 ≤ v) × (v < 16) × (55 + v ≡ d)) → d ≡ c
one_digit c d v (inl p) (inl q) = omega (arith, p.1, q.1)
one_digit c d v (inl p) (inr q) = absurd (omega (arith, p.0, q.0))
one_digit c d v (inr p) (inl q) = absurd (omega (arith, p.0, q.0))
one_digit c d v (inr p) (inr q) = omega (arith, p.2, q.2)

value_small : (c v : ℕ) → hex_digit_value c ≡ Some v → v < 16
value_small c v e = grind (arith)

-- a digit in upper case is the digit of its value
digit_again : (c v : ℕ) → c < 97 → hex_digit_value c ≡ Some v → (v < 16) × (slice_index upper_digits v ≡ c)
digit_again c v h e =
    let small = value_small c v e in
    (small, one_digit c (slice_index upper_digits v) v (value_of_digit c v h e) (value_of_digit (slice_index upper_digits v) v (digit_below v) (IsDigits-upper_digits v small)))

-- the octets of pairs of digits in upper case are written as those digits
pairs_again : (i : ℕ) (text octets : List ℕ) → IsUpperCase text → decode_pairs i text ≡ Ok octets → text ≡ encode_upper octets
unfolding decode_pairs encode_with
pairs_again i [] octets upper e =
    let is : [] ≡ octets = ap (λ (r : Result (List ℕ) FromHexError). result_unwrap_or r []) e in
    rw (← is) refl
pairs_again i (a ∷ []) octets upper e = cc e
pairs_again i (a ∷ b ∷ rest) octets upper e =
    let p0 = bind_ok (pair_value a b i) _ octets e in
    let p1 = bind_ok (value_at a i) _ p0.0 p0.1 in
    let p2 = bind_ok (value_at b (i + 1)) _ p0.0 p1.2 in
    let p3 = bind_ok (decode_pairs (i + 2) rest) _ octets p0.2 in
    let is : p0.0 ∷ p3.0 ≡ octets = ap (λ (r : Result (List ℕ) FromHexError). result_unwrap_or r []) p3.2 in
    let octet : p1.0 * 16 + p2.0 ≡ p0.0 = ap (λ (r : Result ℕ FromHexError). result_unwrap_or r 0) p2.2 in
    let da = digit_again a p1.0 (upper 0 (omega arith)) (digit_read a i (hex_digit_value a) p1.0 p1.1) in
    let db = digit_again b p2.0 (upper 1 (omega arith)) (digit_read b (i + 1) (hex_digit_value b) p2.0 p2.1) in
    let ih = pairs_again (i + 2) rest p3.0 (λ k lt. upper (suc (suc k)) (omega arith)) p3.1 in
    let sa = da.0 in
    let sb = db.0 in
    let high : p0.0 / 16 ≡ p1.0 = omega arith in
    let low : p0.0 % 16 ≡ p2.0 = omega arith in
    rw (← is, high, low, da.1, db.1, ← ih) refl

-- what digits in upper case are read as is written as those digits
pub octets_again : (text octets : List ℕ) → IsUpperCase text → decode_of text ≡ Ok octets → text ≡ encode_upper octets
octets_again text octets upper e =
    let ok = decode_of-ok text octets e in
    pairs_again 0 text octets upper (sym (decode_of-even text ok.0) ∙ e)

-- what is written is in upper case
pub written_in_upper_case : (octets : List ℕ) → IsUpperCase (encode_upper octets)
unfolding encode_with
written_in_upper_case [] k lt = absurd (omega arith)
written_in_upper_case (o ∷ octets) zero lt = digit_below (o / 16)
written_in_upper_case (o ∷ octets) (suc zero) lt = digit_below (o % 16)
written_in_upper_case (o ∷ octets) (suc (suc k)) lt = written_in_upper_case octets k (omega arith)

-- the identifier that eight digits in upper case are read as is written as those digits
pub identifier_again : (text octets : List ℕ) → IsUpperCase text → decode_sized text 4 ≡ Ok octets
    → text ≡ identifier_text (from_be_bytes w32 octets)
identifier_again text octets upper e =
    let size = decode_sized-ok text 4 octets e in
    let read : decode_of text ≡ Ok octets = sym (decode_sized-twice text 4 size) ∙ e in
    let ok = decode_of-ok text octets read in
    let four = be_bytes_4 octets (from_be_bytes w32 octets) (omega (arith, ok.2)) ok.3 refl in
    octets_again text octets upper read ∙ ap encode_upper (sym four)

-- the octets of an identifier
pub identifier_octets : (local : ℕ) → IsBytes (to_be_bytes w32 local)
identifier_octets local zero = omega arith
identifier_octets local (suc zero) = omega arith
identifier_octets local (suc (suc zero)) = omega arith
identifier_octets local (suc (suc (suc zero))) = omega arith
identifier_octets local (suc (suc (suc (suc k)))) = omega arith

-- the text of an identifier is read as its four octets
pub identifier_read : (local : ℕ) → decode_sized (identifier_text local) 4 ≡ Ok (to_be_bytes w32 local)
identifier_read local =
    decode_sized-twice (identifier_text local) 4 (length-encode_with upper_digits (to_be_bytes w32 local))
    ∙ decode_of-encode_upper (to_be_bytes w32 local) (identifier_octets local)
