-- Octets that grow at their front by one element after another: what `canon` of elements comes to, and that those
-- behind stay.
use Rattle.std.proofs.Common.{◌≡◌, ℕ, zero, suc, ◌-◌, ◌<◌, ◌≤◌, ◌^◌, List, ◌∷◌, ◌++◌, length, get_or, drop, drop-cons, refl, sym, ◌∙◌, ap, arith, append_assoc, length-append}
use Rattle.fp_ber.specs.Canon.{canon, canon_of_all}
use Rattle.fp_ber.specs.Tree.{Tree, Trees, none, more}

-- an element before elements
pub before_others : (t : Tree) (ts : Trees) (rest old new : List ℕ) → new ≡ canon t ++ old → old ≡ canon_of_all ts ++ rest
    → new ≡ canon_of_all (more t ts) ++ rest
before_others t ts rest old new put were =
    put ∙ (ap (λ octets. canon t ++ octets) were ∙ sym (append_assoc (canon t) (canon_of_all ts) rest))

-- an element alone
pub alone : (t : Tree) (rest new : List ℕ) → new ≡ canon t ++ rest → new ≡ canon_of_all (more t none) ++ rest
alone t rest new put = before_others t none rest rest new put refl

-- as many octets as were there still are
pub still_behind : (t : Tree) (behind : ℕ) (old new : List ℕ) → new ≡ canon t ++ old → behind ≤ length old → behind ≤ length new
still_behind t behind old new put fits = omega (arith, ap length put, length-append (canon t) old)

-- what stands from a place on, and what stands before it: a list that is gone through from its end
pub drop_before : {A : Type 0} (items : List A) (n : ℕ) (item : A) → 0 < n → n ≤ length items → item ≡ get_or items (n - 1) item
    → drop (n - 1) items ≡ item ∷ drop n items
drop_before items zero item h l is = absurd (omega arith)
drop_before items (suc n) item h l is =
    let e : suc n - 1 ≡ n = omega arith in
    let is' : item ≡ get_or items n item = rw e at is in
    rw e (drop-cons items n item (omega arith) ∙ ap (λ x. x ∷ drop (suc n) items) (sym is'))

-- octets that end with others
pub record EndsWith (octets rest : List ℕ) : Type 0 where
  pub front : List ℕ
  pub is : octets ≡ front ++ rest

-- the end of an end
pub end_of_end : (xs ys zs : List ℕ) → EndsWith xs ys → EndsWith ys zs → EndsWith xs zs
end_of_end xs ys zs p q = record {
  front = p.front ++ q.front;
  is = p.is ∙ (ap (λ octets. p.front ++ octets) q.is ∙ sym (append_assoc p.front q.front zs));
}

-- room where there are this many places in front of a place, from which on it has what it had
pub record HasRoom (old : List ℕ) (start count : ℕ) (new : List ℕ) (place : ℕ) : Type 0 where
  pub front : count ≤ place
  pub inside : place ≤ length new
  pub fits : length new < 2 ^ 32
  pub kept : drop place new ≡ drop start old
