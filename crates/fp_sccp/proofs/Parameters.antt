-- The parameters with which octets begin, and what they say.
use Rattle.std.proofs.Common.{◌≡◌, ◌≢◌, ℕ, ◌+◌, ◌≤◌, ◌<◌, Bool, true, false, ◌&&◌, List, [], ◌∷◌, ◌++◌, length, get_or, take, drop, refl, sym, ◌∙◌, ap, subst, inl, inr, arith, length-drop}
use Rattle.std.specs.List.{list_all}
use Rattle.std.proofs.lemmas.List.{drop_at, take_at}
use Rattle.fp_sccp.specs.OptionalPart.{HasParameters, OptionalPartSays, Parameter, SaysWhole, allows_whole, parameter_octets}

-- octets begin with one parameter
pub same_first : (one other : Parameter) (after others : List ℕ)
    → parameter_octets one ++ after ≡ parameter_octets other ++ others → (one ≡ other) × (after ≡ others)
same_first one other after others e =
    let same_name : one.name ≡ other.name = ap (λ o. get_or o 0 0) e in
    let same_size : length one.contents ≡ length other.contents = ap (λ o. get_or o 1 0) e in
    let behind : one.contents ++ after ≡ other.contents ++ others = ap (drop 2) e in
    let contents : one.contents ≡ other.contents =
    sym (take_at one.contents after (length one.contents) refl) ∙ ap (take (length one.contents)) behind
    ∙ take_at other.contents others (length one.contents) (sym same_size) in
    let rest : after ≡ others =
    sym (drop_at one.contents after (length one.contents) refl) ∙ ap (drop (length one.contents)) behind
    ∙ drop_at other.contents others (length one.contents) (sym same_size) in
    (λ i. record { name = same_name i; contents = contents i }, rest)

-- the octet that ends the parameters leaves the message whole
pub at_end : (rest : List ℕ) → 0 < length rest → get_or rest 0 0 ≡ 0 → SaysWhole rest true
at_end [] some ended = absurd (omega (arith, some))
at_end (name ∷ rest) some ended = ([], (rest, ap (λ n. n ∷ rest) ended), refl)

-- no octets say anything
nothing_at : (rest : List ℕ) (ps : List Parameter) → length rest ≡ 0 → HasParameters rest ps → ⊥
nothing_at rest [] few has = let long = ap length has.1 in omega (arith, few, long)
nothing_at rest (p ∷ ps) few has = let long = ap length has.1.1 in omega (arith, few, long)

pub nothing : (rest : List ℕ) (whole : Bool) → length rest ≡ 0 → SaysWhole rest whole → ⊥
nothing rest whole few says = nothing_at rest says.0 few says.1

-- octets that begin neither with the end nor with a parameter say nothing
none_at : (rest : List ℕ) (ps : List Parameter) → get_or rest 0 0 ≢ 0
    → ((p : Parameter) (after : List ℕ) → rest ≢ parameter_octets p ++ after) → HasParameters rest ps → ⊥
none_at rest [] named none has = named (ap (λ o. get_or o 0 0) has.1)
none_at rest (p ∷ ps) named none has = none p has.1.0 has.1.1

pub none_first : (rest : List ℕ) (whole : Bool) → get_or rest 0 0 ≢ 0
    → ((p : Parameter) (after : List ℕ) → rest ≢ parameter_octets p ++ after) → SaysWhole rest whole → ⊥
none_first rest whole named none says = none_at rest says.0 named none says.1

-- what follows the first parameter says what all says, but for that parameter
pub forward : (rest after : List ℕ) (p : Parameter) (whole : Bool) → get_or rest 0 0 ≢ 0 → rest ≡ parameter_octets p ++ after
    → SaysWhole after whole → SaysWhole rest (allows_whole p && whole)
forward rest after p whole named is says = (
  p ∷ says.0,
  (λ e. named (ap (λ o. get_or o 0 0) is ∙ e), (after, is, says.1)),
  ap (λ b. allows_whole p && b) says.2,
)

-- and if all says something, what follows does
back_at : (rest after : List ℕ) (p : Parameter) (ps : List Parameter) → get_or rest 0 0 ≢ 0 → rest ≡ parameter_octets p ++ after
    → HasParameters rest ps → (other : Bool) × SaysWhole after other
back_at rest after p [] named is has = absurd (named (ap (λ o. get_or o 0 0) has.1))
back_at rest after p (q ∷ qs) named is has =
    let same = same_first q p has.1.0 after (sym has.1.1 ∙ is) in
    (list_all allows_whole qs, (qs, subst (λ o. HasParameters o qs) same.1 has.1.2, refl))

pub back : (rest after : List ℕ) (p : Parameter) (whole : Bool) → get_or rest 0 0 ≢ 0 → rest ≡ parameter_octets p ++ after
    → SaysWhole rest whole → (other : Bool) × SaysWhole after other
back rest after p whole named is says = back_at rest after p says.0 named is says.1

pub and_true : (a : Bool) → (a && true) ≡ a
and_true true = refl
and_true false = refl

pub and_assoc : (a b c : Bool) → ((a && b) && c) ≡ (a && (b && c))
and_assoc true b c = refl
and_assoc false b c = refl

-- octets begin with one list of parameters
same_parameters : (octets : List ℕ) (ps qs : List Parameter) → HasParameters octets ps → HasParameters octets qs → ps ≡ qs
same_parameters octets [] [] a b = refl
same_parameters octets [] (q ∷ qs) a b = absurd (b.0 (ap (λ o. get_or o 0 0) (sym b.1.1 ∙ a.1)))
same_parameters octets (p ∷ ps) [] a b = absurd (a.0 (ap (λ o. get_or o 0 0) (sym a.1.1 ∙ b.1)))
same_parameters octets (p ∷ ps) (q ∷ qs) a b =
    let same = same_first p q a.1.0 b.1.0 (sym a.1.1 ∙ b.1.1) in
    let others = same_parameters a.1.0 ps qs a.1.2 (subst (λ o. HasParameters o qs) (sym same.1) b.1.2) in
    λ i. same.0 i ∷ others i

pub says_one : (octets : List ℕ) (one other : Bool) → SaysWhole octets one → SaysWhole octets other → one ≡ other
says_one octets one other a b =
    a.2 ∙ ap (list_all allows_whole) (same_parameters octets a.0 b.0 a.1 b.1) ∙ sym b.2

-- an XUDT with a pointer to an optional part says nothing if the octets there say nothing
pub no_optional_part : (octets : List ℕ) (whole : Bool) → get_or octets 6 0 ≢ 0
    → ((other : Bool) → SaysWhole (drop (6 + get_or octets 6 0) octets) other → ⊥) → OptionalPartSays octets whole → ⊥
no_optional_part octets whole there none (inl absent) = there absent.0
no_optional_part octets whole there none (inr present) = none whole present.1

-- and it says nothing if the pointer leads past the octets
pub past_the_end : (octets : List ℕ) (whole : Bool) → length octets ≤ 6 + get_or octets 6 0
    → SaysWhole (drop (6 + get_or octets 6 0) octets) whole → ⊥
past_the_end octets whole past says =
    let rest = length-drop (6 + get_or octets 6 0) octets in
    nothing (drop (6 + get_or octets 6 0) octets) whole (omega (arith, past, rest)) says
