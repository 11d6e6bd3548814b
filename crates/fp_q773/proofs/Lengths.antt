-- The lengths that stand at the front of octets.
use Rattle.std.proofs.Common.{◌≡◌, ℕ, ◌+◌, ◌-◌, ◌<◌, ◌≤◌, ◌⊎◌, inl, inr, true, Option, Some, None, MatchOption, List, [], ◌∷◌, ◌++◌, length, get_or, take, drop, replicate, refl, sym, ◌∙◌, ap, subst, append_assoc, length-append, arith}
use Rattle.std.proofs.lemmas.List.{take_rest, take-append-drop, length-take-le, length-replicate, append_cancel_left, append_cancel_right}
use Rattle.fp_ber.specs.declared.element.Class.TheVariants.{Universal}
use Rattle.fp_ber.specs.Tree.{primitive}
use Rattle.fp_ber.specs.Spelling.{IsLength, Spells, BeginsLength}
use Rattle.fp_ber.specs.declared.fault.BerFault.{BerFault}
use Rattle.fp_ber.specs.Faults.{LengthFault}
use Rattle.fp_ber.specs.Laws.{NoneBeginsAnother}
use Rattle.fp_q773.specs.Ids.{HasNoLength}

-- what stands behind the first octets, as a slice pattern gives it
abbrev pub behind : ℕ → List ℕ → List ℕ
behind n s = take (length s - n) (drop n s)

-- octets are the first one and those behind it
pub front_one : (s : List ℕ) → 1 ≤ length s → s ≡ get_or s 0 0 ∷ behind 1 s
front_one [] h = absurd (omega arith)
front_one (x ∷ xs) h = ap (λ (r : List ℕ). x ∷ r) (sym (take_rest (x ∷ xs) 1))

-- the first octet of a definite length isn't that of an indefinite one
pub definite_not_open : (size x y : List ℕ) (n : ℕ) → IsLength size n → size ++ x ≡ 0x80 ∷ y → ⊥
definite_not_open [] x y n h e = absurd h
definite_not_open (l ∷ []) x y n h e =
    let first : l ≡ 0x80 = cc in omega arith
definite_not_open (l ∷ a ∷ []) x y n h e =
    let first : l ≡ 0x80 = cc in omega arith
definite_not_open (l ∷ a ∷ b ∷ []) x y n h e =
    let first : l ≡ 0x80 = cc in omega arith
definite_not_open (l ∷ a ∷ b ∷ c ∷ []) x y n h e =
    let first : l ≡ 0x80 = cc in omega arith
definite_not_open (l ∷ a ∷ b ∷ c ∷ d ∷ []) x y n h e =
    let first : l ≡ 0x80 = cc in omega arith
definite_not_open (l ∷ a ∷ b ∷ c ∷ d ∷ f ∷ rest) x y n h e = absurd h

-- no length begins where the reader finds a fault
short_of : (size : List ℕ) (l : ℕ) (others rest : List ℕ) (n : ℕ) → IsLength size n → l ∷ others ≡ size ++ rest
    → (0x85 ≤ l) ⊎ ((0x80 < l) × (l < 0x85) × (length others + 0x80 < l)) → ⊥
short_of [] l others rest n h e fault = absurd h
short_of (a ∷ []) l others rest n h e (inl high) =
    let first : l ≡ a = cc in omega arith
short_of (a ∷ []) l others rest n h e (inr cut) =
    let first : l ≡ a = cc in omega arith
short_of (a ∷ b ∷ []) l others rest n h e (inl high) =
    let first : l ≡ a = cc in omega arith
short_of (a ∷ b ∷ []) l others rest n h e (inr cut) =
    let first : l ≡ a = cc in omega (arith, ap length e)
short_of (a ∷ b ∷ c ∷ []) l others rest n h e (inl high) =
    let first : l ≡ a = cc in omega arith
short_of (a ∷ b ∷ c ∷ []) l others rest n h e (inr cut) =
    let first : l ≡ a = cc in omega (arith, ap length e)
short_of (a ∷ b ∷ c ∷ d ∷ []) l others rest n h e (inl high) =
    let first : l ≡ a = cc in omega arith
short_of (a ∷ b ∷ c ∷ d ∷ []) l others rest n h e (inr cut) =
    let first : l ≡ a = cc in omega (arith, ap length e)
short_of (a ∷ b ∷ c ∷ d ∷ f ∷ []) l others rest n h e (inl high) =
    let first : l ≡ a = cc in omega arith
short_of (a ∷ b ∷ c ∷ d ∷ f ∷ []) l others rest n h e (inr cut) =
    let first : l ≡ a = cc in omega (arith, ap length e)
short_of (a ∷ b ∷ c ∷ d ∷ f ∷ g ∷ more) l others rest n h e fault = absurd h

nothing_of : (size rest : List ℕ) (n : ℕ) → IsLength size n → [] ≡ size ++ rest → ⊥
nothing_of [] rest n h e = absurd h
nothing_of (a ∷ size) rest n h e = cc

pub no_length : (octets : List ℕ) (fault : BerFault) → LengthFault true octets fault → HasNoLength octets
no_length [] fault h rest (inl passes) = nothing_of passes.1.text rest passes.0 passes.1.is_length passes.1.whole
no_length [] fault h rest (inr indefinite) = cc
no_length (l ∷ others) fault (inl h) rest passes =
    let primitive_one = h.0 in cc
no_length (l ∷ others) fault (inr (inl h)) rest (inl passes) =
    short_of passes.1.text l others rest passes.0 passes.1.is_length passes.1.whole (inl h.0)
no_length (l ∷ others) fault (inr (inl h)) rest (inr indefinite) =
    let first : l ≡ 0x80 = cc in omega arith
no_length (l ∷ others) fault (inr (inr h)) rest (inl passes) =
    short_of passes.1.text l others rest passes.0 passes.1.is_length passes.1.whole (inr (h.0, h.1, h.2))
no_length (l ∷ others) fault (inr (inr h)) rest (inr indefinite) =
    let first : l ≡ 0x80 = cc in omega arith

-- the length that was read, of a constructed element
pub read_length : (value : Option ℕ) (octets rest : List ℕ)
    → MatchOption value ((true ≡ true) × (octets ≡ 0x80 ∷ rest)) (λ n. BeginsLength octets n rest) → MatchOption value (octets ≡ 0x80 ∷ rest) (λ n. BeginsLength octets n rest)
read_length None octets rest h = h.1
read_length (Some n) octets rest h = h

-- an octet string with this length, and what of its contents is there
Spells-string : (size contents : List ℕ) (n : ℕ) → IsLength size n → length contents ≡ n → Spells (4 ∷ (size ++ contents)) (primitive Universal 4 contents)
Spells-string size contents n h is = (
  4 ∷ [],
  size ++ contents,
  refl,
  (refl, omega arith, omega arith),
  record {
    size = size;
    is_length = subst (λ m. IsLength size m) (sym is) h;
    whole = refl;
  },
)

-- octets behind a length: as many as it says, and the rest
string_parts : (size x : List ℕ) (n : ℕ) → 4 ∷ (size ++ x) ≡ (4 ∷ (size ++ take n x)) ++ drop n x
string_parts size x n = ap (λ (z : List ℕ). 4 ∷ z) (ap (λ (z : List ℕ). size ++ z) (sym (take-append-drop n x)) ∙ sym (append_assoc size (take n x) (drop n x)))

-- what two definite lengths that begin the same octets have in common
pub record SameLength (p q x y : List ℕ) (m n : ℕ) : Type 0 where
  pub number : m ≡ n
  pub text : p ≡ q
  pub rest : x ≡ y

-- Two definite lengths that begin the same octets are the same: with octets enough behind them each is that of an octet
-- string, and no spelling begins another.
long_same : NoneBeginsAnother → (p q x y : List ℕ) (m n : ℕ) → IsLength p m → IsLength q n → m ≤ length x → n ≤ length y → p ++ x ≡ q ++ y
    → (m ≡ n) × (p ≡ q)
long_same law p q x y m n h k short short' e =
    let a = length-take-le m x short in
    let b = length-take-le n y short' in
    let one : (4 ∷ (p ++ take m x)) ++ drop m x ≡ (4 ∷ (q ++ take n y)) ++ drop n y =
    sym (string_parts p x m) ∙ ap (λ (z : List ℕ). 4 ∷ z) e ∙ string_parts q y n in
    let same = law (4 ∷ (p ++ take m x)) (4 ∷ (q ++ take n y)) (drop m x) (drop n y) (primitive Universal 4 (take m x)) (primitive Universal 4 (take n y))
    (Spells-string p (take m x) m h a) (Spells-string q (take n y) n k b) one in
    let texts = same.0 in
    let trees = same.1 in
    let contents : take m x ≡ take n y = cc in
    let whole : p ++ take m x ≡ q ++ take n y = cc in
    let there : p ++ take n y ≡ q ++ take n y = subst (λ z. p ++ z ≡ q ++ take n y) contents whole in
    (sym a ∙ ap length contents ∙ b, append_cancel_right p q (take n y) there)

pub length_same : NoneBeginsAnother → (p q x y : List ℕ) (m n : ℕ) → IsLength p m → IsLength q n → p ++ x ≡ q ++ y → SameLength p q x y m n
length_same law p q x y m n h k e =
    let more : List ℕ = replicate (m + n) 0 in
    let size : length more ≡ m + n = length-replicate (m + n) 0 in
    let longer : p ++ (x ++ more) ≡ q ++ (y ++ more) =
    sym (append_assoc p x more) ∙ ap (λ (z : List ℕ). z ++ more) e ∙ append_assoc q y more in
    let left : length (x ++ more) ≡ length x + length more = length-append x more in
    let right : length (y ++ more) ≡ length y + length more = length-append y more in
    let same = long_same law p q (x ++ more) (y ++ more) m n h k (omega arith) (omega arith) longer in
    let there : p ++ x ≡ p ++ y = e ∙ ap (λ (z : List ℕ). z ++ y) (sym same.1) in
    record { number = same.0; text = same.1; rest = append_cancel_left p x y there }
