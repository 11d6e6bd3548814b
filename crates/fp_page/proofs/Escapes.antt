-- Escaped texts: an octet that marks nothing is itself, there are no marks, and each is that of one text.
use Rattle.std.proofs.Common.{◌≡◌, ◌≢◌, ℕ, ◌<◌, ◌≤◌, suc, ◌==◌, false, subst, List, [], ◌∷◌, ◌++◌, length, get_or, drop, inl, inr, refl, sym, ap, ap₂, ◌∙◌, arith, append-nil, ne_eqb, cond, length-append}
use Rattle.std.proofs.lemmas.Bool.{cases_lt, cases_eq}
use Rattle.std.proofs.lemmas.Grind.{flat_map-append}
use Rattle.std.proofs.lemmas.List.Folds.{list_any-append}
use Rattle.std.proofs.lemmas.Str.{encode_ascii, inside_one}
use Rattle.std.specs.Char.{encode_utf8}
use Rattle.std.specs.List.{list_any}
use Rattle.fp_page.specs.Escaped.{escaped, escaped_octet, is_mark}

-- what has a reference
pub record IsPlain (octet : ℕ) : Type 0 where
  pub ampersand : octet ≢ 38
  pub less : octet ≢ 60
  pub greater : octet ≢ 62
  pub quotation : octet ≢ 34
  pub apostrophe : octet ≢ 39

pub itself : (octet : ℕ) → IsPlain octet → escaped_octet octet ≡ octet ∷ []
itself octet plain =
    rw (ne_eqb octet 38 plain.ampersand, ne_eqb octet 60 plain.less, ne_eqb octet 62 plain.greater, ne_eqb octet 34 plain.quotation, ne_eqb octet 39 plain.apostrophe) refl

-- what holds of each of the five, and of all others, holds of each octet
by_kind : (P : ℕ → Type 0) → P 38 → P 60 → P 62 → P 34 → P 39 → ((octet : ℕ) → IsPlain octet → P octet) → (octet : ℕ) → P octet
by_kind P a b c d e other octet = elim (cases_eq octet 38) [
  | inl same ↦ subst P (sym same) a
  | inr ampersand ↦ elim (cases_eq octet 60) [
    | inl same ↦ subst P (sym same) b
    | inr less ↦ elim (cases_eq octet 62) [
      | inl same ↦ subst P (sym same) c
      | inr greater ↦ elim (cases_eq octet 34) [
        | inl same ↦ subst P (sym same) d
        | inr quotation ↦ elim (cases_eq octet 39) [
          | inl same ↦ subst P (sym same) e
          | inr apostrophe ↦ other octet (record { ampersand = ampersand; less = less; greater = greater; quotation = quotation; apostrophe = apostrophe })
        ]
      ]
    ]
  ]
]

high : (xs : List ℕ) → ((k : ℕ) → k < length xs → 128 ≤ get_or xs k 0) → escaped xs ≡ xs
high [] h = refl
high (x ∷ xs) h =
    let above : 128 ≤ x = h 0 (omega arith) in
    let plain : IsPlain x = record { ampersand = λ e. omega arith; less = λ e. omega arith; greater = λ e. omega arith; quotation = λ e. omega arith; apostrophe = λ e. omega arith } in
    ap₂ (λ (a b : List ℕ). a ++ b) (itself x plain) (high xs (λ k below. h (suc k) (omega arith)))

-- a character that marks nothing is itself
pub character : (c : ℕ) → IsPlain c → escaped (encode_utf8 c) ≡ encode_utf8 c
character c plain = elim (cases_lt c 128) [
  | inl small ↦ rw (encode_ascii c small) (ap (λ l. l ++ []) (itself c plain))
  | inr big ↦ high (encode_utf8 c) (λ k below. elim (cases_lt (get_or (encode_utf8 c) k 0) 128) [
    | inl low ↦ absurd (omega (arith, inside_one c [] (encode_utf8 c) k (sym (append-nil _)) below low))
    | inr above ↦ above
  ])
]

-- a text whose first character is this one
pub front : (text rest : List ℕ) (c : ℕ) → text ≡ encode_utf8 c ++ rest → escaped text ≡ escaped (encode_utf8 c) ++ escaped rest
front text rest c e = ap escaped e ∙ flat_map-append escaped_octet (encode_utf8 c) rest

octet_unmarked : (octet : ℕ) → list_any is_mark (escaped_octet octet) ≡ false
octet_unmarked = by_kind (λ o. list_any is_mark (escaped_octet o) ≡ false) refl refl refl refl refl (λ octet plain.
    rw (itself octet plain, ne_eqb octet 60 plain.less, ne_eqb octet 62 plain.greater, ne_eqb octet 34 plain.quotation, ne_eqb octet 39 plain.apostrophe) refl)

pub unmarked : (text : List ℕ) → list_any is_mark (escaped text) ≡ false
unmarked [] = refl
unmarked (octet ∷ text) = list_any-append is_mark (escaped_octet octet) (escaped text) ∙ rw (octet_unmarked octet, unmarked text) refl

-- which octet an escaped text begins with
first_of : List ℕ → ℕ
first_of text =
    cond (get_or text 0 0 == 38)
    (cond (get_or text 1 0 == 97) 38 (cond (get_or text 1 0 == 108) 60 (cond (get_or text 1 0 == 103) 62 (cond (get_or text 1 0 == 113) 34 39))))
    (get_or text 0 0)

first_octet : (rest : List ℕ) (octet : ℕ) → first_of (escaped_octet octet ++ rest) ≡ octet
unfolding first_of
first_octet rest = by_kind (λ o. first_of (escaped_octet o ++ rest) ≡ o) refl refl refl refl refl (λ octet plain.
    rw (itself octet plain, ne_eqb octet 38 plain.ampersand) refl)

some : (octet : ℕ) → 0 < length (escaped_octet octet)
some = by_kind (λ o. 0 < length (escaped_octet o)) (omega arith) (omega arith) (omega arith) (omega arith) (omega arith) (λ octet plain. rw (itself octet plain) (omega arith))

cancel : (front a b : List ℕ) → front ++ a ≡ front ++ b → a ≡ b
cancel [] a b e = e
cancel (x ∷ front) a b e = cancel front a b (ap (λ l. drop 1 l) e)

not_none : (octet : ℕ) (rest : List ℕ) → escaped_octet octet ++ rest ≡ [] → ⊥
not_none octet rest e = omega (arith, some octet, ap length e, length-append (escaped_octet octet) rest)

pub one : (a b : List ℕ) → escaped a ≡ escaped b → a ≡ b
one [] [] e = refl
one [] (y ∷ b) e = absurd (not_none y (escaped b) (sym e))
one (x ∷ a) [] e = absurd (not_none x (escaped a) e)
one (x ∷ a) (y ∷ b) e =
    let same : x ≡ y = sym (first_octet (escaped a) x) ∙ ap first_of e ∙ first_octet (escaped b) y in
    let rest : escaped_octet x ++ escaped a ≡ escaped_octet x ++ escaped b = e ∙ ap (λ o. escaped_octet o ++ escaped b) (sym same) in
    ap₂ (λ (o : ℕ) (l : List ℕ). o ∷ l) same (one a b (cancel (escaped_octet x) (escaped a) (escaped b) rest))
