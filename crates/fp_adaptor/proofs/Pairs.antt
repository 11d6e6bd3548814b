-- Two maps that lead to each other, a pair more or less in them.
use Rattle.std.proofs.Common.{◌≡◌, ◌≢◌, ℕ, Bool, true, false, cond, List, Option, Some, None, refl, sym, ap, ◌∙◌}
use Rattle.std.proofs.lemmas.Bool.{false≢true}
use Rattle.std.proofs.lemmas.Map.Lookups.{exact_bytes}
use Rattle.std.proofs.lemmas.Option.{same_Some}
use Rattle.std.specs.Cmp.{Equal-is, eq_by_cmp_equiv}
use Rattle.std.specs.Cmp.Lexicographic.{nat_list_cmp_total, slice_cmp}
use Rattle.std.specs.Ordering.{nat_cmp}
use Rattle.fp_adaptor.specs.Dialogues.{is_same, unless_exchange}
use Rattle.fp_adaptor.specs.Seen.{Paired}

-- the test says that two identifiers are one
pub same : (a b : List ℕ) → is_same a b ≡ true → a ≡ b
same a b e = exact_bytes a b ((Equal-is (slice_cmp nat_cmp a b)).0 e)

pub is_same-refl : (a b : List ℕ) → a ≡ b → is_same a b ≡ true
is_same-refl a b e = ap (is_same a) (sym e) ∙ (eq_by_cmp_equiv nat_list_cmp_total).refl a

pub apart : (a b : List ℕ) → is_same a b ≡ false → a ≢ b
apart a b e same = false≢true (sym e ∙ is_same-refl a b same)

-- what a map has at a key after an edit at a key
abbrev pub edited : {X : Type 0} → List ℕ → Option X → List ℕ → Option X → Option X
edited key value other had = cond (is_same key other) value had

module _ (one other : List ℕ → Option (List ℕ)) (pairs : Paired one other) (x y : List ℕ) where
  -- without a pair they lead to each other
  module _ (there : other x ≡ Some y) (p q : List ℕ) where
    kept : other p ≡ Some q → is_same x p ≡ false → (b : Bool) → is_same y q ≡ b → cond b None (one q) ≡ Some p
    kept is differs true e = absurd (apart x p differs (same_Some _ _ (sym ((pairs x y).0 there) ∙ ap one (same y q e) ∙ (pairs p q).0 is)))
    kept is differs false e = (pairs p q).0 is

    pub without_pair : (b : Bool) → is_same x p ≡ b → cond b None (other p) ≡ Some q → edited y None q (one q) ≡ Some p
    without_pair true e is = absurd (cc is)
    without_pair false e is = kept is e (is_same y q) refl

  -- with a pair of two that lead nowhere, too
  module _ (free : one y ≡ None) (p q : List ℕ) where
    beside : other p ≡ Some q → (b : Bool) → is_same y q ≡ b → cond b (Some x) (one q) ≡ Some p
    beside is true e = absurd (let clash = sym free ∙ ap one (same y q e) ∙ (pairs p q).0 is in cc clash)
    beside is false e = (pairs p q).0 is

    pub with_pair : (b : Bool) → is_same x p ≡ b → cond b (Some y) (other p) ≡ Some q → edited y (Some x) q (one q) ≡ Some p
    with_pair true e is = ap (λ b. cond b (Some x) (one q)) (is_same-refl y q (same_Some _ _ is)) ∙ ap Some (same x p e)
    with_pair false e is = beside is (is_same y q) refl

swapped : {one other : List ℕ → Option (List ℕ)} → Paired one other → Paired other one
swapped pairs p q = ((pairs q p).1, (pairs q p).0)

pub fewer : {one other : List ℕ → Option (List ℕ)} → Paired one other → (x y : List ℕ) → other x ≡ Some y → Paired (λ q. edited y None q (one q)) (λ p. edited x None p (other p))
fewer {one} {other} pairs x y there p q = (
  without_pair one other pairs x y there p q (is_same x p) refl,
  without_pair other one (swapped pairs) y x ((pairs x y).0 there) q p (is_same y q) refl,
)

pub more : {one other : List ℕ → Option (List ℕ)} → Paired one other → (x y : List ℕ) → other x ≡ None → one y ≡ None → Paired (λ q. edited y (Some x) q (one q)) (λ p. edited x (Some y) p (other p))
more {one} {other} pairs x y none free p q = (
  with_pair one other pairs x y free p q (is_same x p) refl,
  with_pair other one (swapped pairs) y x none q p (is_same y q) refl,
)

-- maps that have the same lead to each other if they do
pub paired_same : {one other : List ℕ → Option (List ℕ)} (one' other' : List ℕ → Option (List ℕ)) → ((q : List ℕ) → one' q ≡ one q) → ((p : List ℕ) → other' p ≡ other p) → Paired one other → Paired one' other'
paired_same one' other' e f pairs p q = (λ is. e q ∙ (pairs p q).0 (sym (f p) ∙ is), λ is. f p ∙ (pairs p q).1 (sym (e q) ∙ is))

-- a dialogue is forgotten by the exchange's identifier if it has that, and only then
pub forgets : (x : List ℕ) (o : Option (List ℕ)) → o ≡ Some x → unless_exchange (Some x) o ≡ None
forgets x None is = refl
forgets x (Some other) is = ap (λ b. cond b None (Some other)) (is_same-refl x other (sym (same_Some _ _ is)))

pub leaves : (x : List ℕ) (o : Option (List ℕ)) → o ≢ Some x → unless_exchange (Some x) o ≡ o
leaves x None is_not = refl
leaves x (Some other) is_not = by (is_same x other) refl
  where
    by : (b : Bool) → is_same x other ≡ b → cond b None (Some other) ≡ Some other
    by true e = absurd (is_not (ap Some (sym (same x other e))))
    by false e = refl
