-- The least of a list of numbers.
use Rattle.std.proofs.Common.{◌≡◌, ℕ, zero, suc, ◌≤◌, List, [], ◌∷◌, length, refl, ap, sym, subst, arith, inl, inr}
use Rattle.std.specs.Prelude.{None, Some, MatchOption}
use Rattle.std.specs.declared.option.Option.{Option}
use Rattle.std.specs.List.{All, Contains}
use Rattle.std.proofs.lemmas.Bool.{cases_lt}
use Rattle.std.proofs.lemmas.List.Elements.{All-contains}
use Rattle.std.proofs.Math.Nat.{min-eq_left, min-eq_right, min-le_left, min-le_right}
use Rattle.fp_ism.specs.Due.{least, least_of}

-- the least of a list is one of its numbers
least-among : (first : ℕ) (numbers : List ℕ) → Contains (first ∷ numbers) (least first numbers)
least-among first [] = (0, omega arith, refl)
least-among first (second ∷ numbers) =
    let below : Contains (second ∷ numbers) (least second numbers) = least-among second numbers in
    elim (cases_lt first (least second numbers)) [
      | inl less ↦ subst (λ n. Contains (first ∷ second ∷ numbers) n) (sym (min-eq_left (omega arith))) (0, omega arith, refl)
      | inr more ↦ subst (λ n. Contains (first ∷ second ∷ numbers) n) (sym (min-eq_right more)) (suc below.0, omega (arith, below.1), below.2)
    ]

-- and at most each of them
pub least-below : (first : ℕ) (numbers : List ℕ) → All (λ other. least first numbers ≤ other) (first ∷ numbers)
least-below first [] zero d within = omega arith
least-below first [] (suc k) d within = absurd (omega arith)
least-below first (second ∷ numbers) zero d within = min-le_left first (least second numbers)
least-below first (second ∷ numbers) (suc k) d within =
    omega (arith, min-le_right first (least second numbers), least-below second numbers k d (omega arith))

-- a number of the list that is at most each of its numbers is its least, and an empty list has none
pub least_of-is : (P : Type 0) (numbers : List ℕ) (found : Option ℕ) → (P → length numbers ≡ 0) → MatchOption found P (λ n. Contains numbers n × All (λ other. n ≤ other) numbers) → found ≡ least_of numbers
least_of-is P [] None none is = refl
least_of-is P [] (Some n) none is = absurd (omega (arith, is.0.1))
least_of-is P (first ∷ numbers) None none is = absurd (omega (arith, none is))
least_of-is P (first ∷ numbers) (Some n) none is =
    let below : n ≤ least first numbers =
    All-contains (λ other. n ≤ other) (first ∷ numbers) (least first numbers) is.1 (least-among first numbers) in
    let above : least first numbers ≤ n =
    All-contains (λ other. least first numbers ≤ other) (first ∷ numbers) n (least-below first numbers) is.0 in
    let same : n ≡ least first numbers = omega arith in
    ap Some same
