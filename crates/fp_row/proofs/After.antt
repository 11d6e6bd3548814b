-- Which identifier comes next.
use Rattle.std.proofs.Common.{◌≡◌, ℕ, ◌≤◌, ◌⊎◌, inl, inr, Bool, true, false, cond, eqb, fold, min, List, [], ◌∷◌, Option, Some, None, refl, sym, ap, ⊎_elim, ◌∙◌, arith}
use Rattle.std.proofs.lemmas.Bool.{cases_lt, eqb-true, false≢true, or_cases, or_left, or_right}
use Rattle.std.proofs.lemmas.Bool.Decides.{nat_tests}
use Rattle.std.specs.List.{filter, reduce}
use Rattle.std.specs.Set.{is_member}
use Rattle.std.specs.FinMap.{FinMap, contains_key}
use Rattle.std.specs.Ordering.{nat_cmp}
use Rattle.fp_row.specs.declared.row.Row.{Row}
use Rattle.fp_row.specs.Rows.{AfterIsOne, IsAfter, is_above}

module _ (p : ℕ → Bool) where
  -- m is the least of x and of those of a list that pass the test
  record Least (x : ℕ) (ks : List ℕ) (m : ℕ) : Type 0 where
    below : m ≤ x
    least : (q : ℕ) → is_member eqb ks q ≡ true → p q ≡ true → m ≤ q
    there : (m ≡ x) ⊎ ((is_member eqb ks m ≡ true) × (p m ≡ true))

  -- what passes is the first of the list or another
  first_or_other : (k q : ℕ) (ks : List ℕ) (P : Type 0) → is_member eqb (k ∷ ks) q ≡ true → (q ≡ k → P) → (is_member eqb ks q ≡ true → P) → P
  first_or_other k q ks P is first other = ⊎_elim (λ here. first (eqb-true q k here)) other (or_cases (eqb q k) (is_member eqb ks q) is)

  of_first : (k m : ℕ) (ks : List ℕ) → m ≡ k → is_member eqb (k ∷ ks) m ≡ true
  of_first k m ks same = or_left (eqb m k) (is_member eqb ks m) (grind (arith, nat_tests, same))

  of_others : (k m : ℕ) (ks : List ℕ) → is_member eqb ks m ≡ true → is_member eqb (k ∷ ks) m ≡ true
  of_others k m ks is = or_right (eqb m k) (is_member eqb ks m) is

  one_of : (x k m : ℕ) → m ≡ min x k → (m ≡ x) ⊎ (m ≡ k)
  one_of x k m is = ⊎_elim (λ less. inl (is ∙ omega (arith, less))) (λ more. inr (is ∙ omega (arith, more))) (cases_lt x k)

  with_first : (x k m : ℕ) (ks : List ℕ) → p k ≡ true → Least (min x k) ks m → Least x (k ∷ ks) m
  with_first x k m ks passes r = record {
    below = omega (arith, r.below);
    least = λ q is passing. first_or_other k q ks (m ≤ q) is (λ same. omega (arith, same, r.below)) (λ among. r.least q among passing);
    there = ⊎_elim
        (λ (is : m ≡ min x k). ⊎_elim inl (λ (same : m ≡ k). inr (of_first k m ks same, ap p same ∙ passes)) (one_of x k m is))
        (λ (among : (is_member eqb ks m ≡ true) × (p m ≡ true)). inr (of_others k m ks among.0, among.1)) r.there;
  }

  without_first : (x k m : ℕ) (ks : List ℕ) → p k ≡ false → Least x ks m → Least x (k ∷ ks) m
  without_first x k m ks fails r = record {
    below = r.below;
    least = λ q is passing. first_or_other k q ks (m ≤ q) is (λ same. absurd (false≢true (sym fails ∙ ap p (sym same) ∙ passing))) (λ among. r.least q among passing);
    there = ⊎_elim inl (λ (among : (is_member eqb ks m ≡ true) × (p m ≡ true)). inr (of_others k m ks among.0, among.1)) r.there;
  }

  fold_least : (x : ℕ) (ks : List ℕ) → Least x ks (fold min x (filter p ks))
  fold_least x [] = record { below = omega arith; least = λ q is passing. absurd (false≢true is); there = inl refl }
  fold_least x (k ∷ ks) = by (fold_least (min x k) ks) (fold_least x ks) (p k) refl
    where
      by : Least (min x k) ks (fold min (min x k) (filter p ks)) → Least x ks (fold min x (filter p ks)) → (b : Bool) → p k ≡ b → Least x (k ∷ ks) (fold min x (cond b (k ∷ filter p ks) (filter p ks)))
      by first others true is = with_first x k _ ks is first
      by first others false is = without_first x k _ ks is others

  -- the least of those of a list that pass the test, if any does
  abbrev pub IsNextOf : List ℕ → Option ℕ → Type 0
  IsNextOf ks None = (q : ℕ) → is_member eqb ks q ≡ true → p q ≡ false
  IsNextOf ks (Some m) = (is_member eqb ks m ≡ true) × (p m ≡ true) × ((q : ℕ) → is_member eqb ks q ≡ true → p q ≡ true → m ≤ q)

  of_least : (k m : ℕ) (ks : List ℕ) → p k ≡ true → Least k ks m → IsNextOf (k ∷ ks) (Some m)
  of_least k m ks passes r = (
    ⊎_elim (of_first k m ks) (λ (among : (is_member eqb ks m ≡ true) × (p m ≡ true)). of_others k m ks among.0) r.there,
    ⊎_elim (λ (same : m ≡ k). ap p same ∙ passes) (λ (among : (is_member eqb ks m ≡ true) × (p m ≡ true)). among.1) r.there,
    λ q is passing. first_or_other k q ks (m ≤ q) is (λ same. omega (arith, same, r.below)) (λ among. r.least q among passing),
  )

  of_rest : (k : ℕ) (ks : List ℕ) (o : Option ℕ) → p k ≡ false → IsNextOf ks o → IsNextOf (k ∷ ks) o
  of_rest k ks None fails next = λ q is. first_or_other k q ks (p q ≡ false) is (λ same. ap p same ∙ fails) (next q)
  of_rest k ks (Some m) fails (among, passes, least) = (
    of_others k m ks among,
    passes,
    λ q is passing. first_or_other k q ks (m ≤ q) is (λ same. absurd (false≢true (sym fails ∙ ap p (sym same) ∙ passing))) (λ other. least q other passing),
  )

  pub next_of : (ks : List ℕ) → IsNextOf ks (reduce min (filter p ks))
  next_of [] = λ q is. absurd (false≢true is)
  next_of (k ∷ ks) = by (next_of ks) (p k) refl
    where
      by : IsNextOf ks (reduce min (filter p ks)) → (b : Bool) → p k ≡ b → IsNextOf (k ∷ ks) (reduce min (cond b (k ∷ filter p ks) (filter p ks)))
      by others true is = of_least k _ ks is (fold_least k ks)
      by others false is = of_rest k ks _ is others

-- so it is among the identifiers of rows
pub after_of : (rows : FinMap nat_cmp Row) (local : Option ℕ) (ks : List ℕ) → ((q : ℕ) → contains_key rows q ≡ is_member eqb ks q) → (o : Option ℕ) → IsNextOf (is_above local) ks o → IsAfter rows local o
after_of rows local ks same None next = λ other has. next other (sym (same other) ∙ has)
after_of rows local ks same (Some m) (among, above, least) = (same m ∙ among, above, λ other has. least other (sym (same other) ∙ has))

-- the least above is one, or none is
pub after_is_one : AfterIsOne
after_is_one rows local None None a b = refl
after_is_one rows local None (Some y) a b = absurd (false≢true (sym (a y b.0) ∙ b.1))
after_is_one rows local (Some x) None a b = absurd (false≢true (sym (b x a.0) ∙ a.1))
after_is_one rows local (Some x) (Some y) a b = ap (λ n. Some n) (let same : x ≡ y = omega (arith, a.2 y b.0 b.1, b.2 x a.0 a.1) in same)
