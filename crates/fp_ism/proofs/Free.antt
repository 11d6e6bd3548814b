-- The next identifier: the first free one is found, and with at most eight active there always is one.
use Rattle.std.proofs.Common.{◌≡◌, ℕ, suc, zero, ◌+◌, ◌-◌, ◌%◌, ◌<◌, ◌≤◌, List, [], ◌∷◌, length, map, refl, ap, sym, ◌∙◌, arith, get_or, Bool, true, false, not, ℤ, pos, subst}
use Rattle.std.specs.Prelude.{Some, find}
use Rattle.std.specs.List.{range_with_len, Contains, IsDistinct}
use Rattle.std.specs.Option.{unwrap_or}
use Rattle.std.specs.Ordering.{int_eq}
use Rattle.std.specs.Set.{is_member}
use Rattle.std.proofs.lemmas.Cmp.{int_eq_equiv}
use Rattle.std.proofs.lemmas.Bool.Decides.{Decides-int_eq}
use Rattle.std.proofs.lemmas.List.{length-map}
use Rattle.std.proofs.lemmas.List.FromFn.{get_or-map-range_with_len, length-map-range_with_len}
use Rattle.std.proofs.lemmas.Map.Made.{length-le_from_is_member, IsDistinct-from_AllPairs, is_member-Decides}
use Rattle.fp_ism.specs.declared.invocation.Invocation.{Invocation}
use Rattle.fp_ism.specs.Identifier.{identifier_after, is_free, next_identifier}
use Rattle.fp_ism.specs.Invocation.{is_active}

-- the first element that passes is found
find-first : {X : Type 0} (p : X → Bool) (xs : List X) (i : ℕ) (d : X) → i < length xs → ((k : ℕ) → k < i → p (get_or xs k d) ≡ false) → p (get_or xs i d) ≡ true → find p xs ≡ Some (get_or xs i d)
find-first p [] i d within before here = absurd (omega arith)
find-first p (x ∷ xs) zero d within before here = rw here refl
find-first p (x ∷ xs) (suc i) d within before here =
    let skip : p x ≡ false = before 0 (omega arith) in
    rw skip (find-first p xs i d (omega arith) (λ k below. before (suc k) (omega arith)) here)

-- among the values of a function
find-map : (p : ℕ → Bool) (f : ℕ → ℕ) (n i : ℕ) → i < n → ((k : ℕ) → k < i → p (f k) ≡ false) → p (f i) ≡ true → find p (map f (range_with_len 0 n)) ≡ Some (f i)
find-map p f n i within before here =
    let at : (k : ℕ) → k < n → get_or (map f (range_with_len 0 n)) k 0 ≡ f k =
    λ k below. get_or-map-range_with_len f 0 n k k 0 below (omega arith) in
    find-first p (map f (range_with_len 0 n)) i 0
    (omega (arith, length-map-range_with_len f 0 n))
    (λ k below. rw (at k (omega arith)) (before k below))
    (rw (at i within) here)
    ∙ ap Some (at i within)

-- the first step at which the identifier isn't active gives the next one
pub next_identifier-is : (last : ℕ) (active : List Invocation) (step : ℕ) → step < 127 → ((k : ℕ) → k < step → is_active (pos (identifier_after last k)) active ≡ true) → is_active (pos (identifier_after last step)) active ≡ false → next_identifier last active ≡ identifier_after last step
unfolding next_identifier
next_identifier-is last active step within before here =
    ap (λ found. unwrap_or found 0)
    (find-map (is_free active) (identifier_after last) 127 step within (λ k below. ap not (before k below)) (ap not here))

-- a test of the list of identifiers
is_member-is_active : (identifier : ℤ) (active : List Invocation) → is_member int_eq (map (λ invocation. invocation.identifier) active) identifier ≡ is_active identifier active
is_member-is_active identifier [] = refl
is_member-is_active identifier (invocation ∷ active) =
    rw (int_eq_equiv.symm identifier invocation.identifier, is_member-is_active identifier active) refl

-- the integer at a place
get_or-integers : (n i : ℕ) (d : ℤ) → i < n → get_or (map pos (range_with_len 1 n)) i d ≡ pos (1 + i)
get_or-integers n i d within = get_or-map-range_with_len pos 1 n i (1 + i) d within refl

-- no two of the integers from 1 on are the same
distinct : (n : ℕ) → IsDistinct int_eq (map pos (range_with_len 1 n))
distinct n =
    IsDistinct-from_AllPairs Decides-int_eq (map pos (range_with_len 1 n))
    (λ i j d before within same.
    let bound : j < n = omega (arith, length-map-range_with_len pos 1 n) in
    let equal : pos (1 + i) ≡ pos (1 + j) =
    sym (get_or-integers n i d (omega arith)) ∙ (same ∙ get_or-integers n j d bound) in
    let steps : 1 + i ≡ 1 + j = (cc) in
    omega arith)

-- if the identifiers 1 to n are active, there are at least n invocations
all_active : (n : ℕ) (active : List Invocation) → ((k : ℕ) → k < n → is_active (pos (1 + k)) active ≡ true) → n ≤ length active
all_active n active each =
    let fits : length (map pos (range_with_len 1 n)) ≤ length (map (λ (invocation : Invocation). invocation.identifier) active) =
    length-le_from_is_member int_eq_equiv (map pos (range_with_len 1 n)) (map (λ invocation. invocation.identifier) active) (distinct n)
    (λ q member.
    let place : Contains (map pos (range_with_len 1 n)) q =
    (is_member-Decides Decides-int_eq (map pos (range_with_len 1 n)) q).0 member in
    let below : place.0 < n = omega (arith, length-map-range_with_len pos 1 n, place.1) in
    let is : pos (1 + place.0) ≡ q = sym (get_or-integers n place.0 q below) ∙ place.2 in
    is_member-is_active q active ∙ subst (λ z. is_active z active ≡ true) is (each place.0 below)) in
    omega (arith, fits, length-map-range_with_len pos 1 n, length-map active (λ invocation. invocation.identifier))

-- with at most eight active the 127 steps can't all find an active one
pub none_free : (last : ℕ) (active : List Invocation) → last ≤ 127 → length active ≤ 8 → ((k : ℕ) → k < 127 → is_active (pos (identifier_after last k)) active ≡ true) → ⊥
none_free last active low few each =
    let many : 127 ≤ length active =
    all_active 127 active
    (λ k below.
    let step : identifier_after last ((k + 127 - last) % 127) ≡ 1 + k = omega arith in
    subst (λ n. is_active (pos n) active ≡ true) step (each ((k + 127 - last) % 127) (omega arith))) in
    omega arith
