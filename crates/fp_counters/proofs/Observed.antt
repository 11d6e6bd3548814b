-- A histogram after one more time.
use Rattle.std.proofs.Common.{◌≡◌, ℕ, ◌+◌, ◌<◌, ◌≤◌, subst, Bool, true, false, List, ◌∷◌, get_or, if◌then◌else◌, length, take, refl, sym, ap, arith, ◌∙◌}
use Rattle.std.specs.Bool.{◌==◌}
use Rattle.std.specs.List.{count_by}
use Rattle.std.proofs.lemmas.List.Sums.{count_by_more_no, count_by_more_yes}
use Rattle.fp_counters.specs.declared.histogram.Histogram.{Histogram}
use Rattle.fp_counters.specs.Counted.{capped}
use Rattle.fp_counters.specs.Histogram.{Observed, bucket_of, number_in, sum_of, times_in}
use Rattle.fp_counters.proofs.Numbers.{capped_more}

counted_at : (p : ℕ → Bool) (list : List ℕ) (i : ℕ) (is : Bool) → p (get_or list i 0) ≡ is → i < length list
    → count_by p (take i list) + (if is then 1 else 0) ≡ count_by p (take (i + 1) list)
counted_at p list i true test within = sym (count_by_more_yes p list i 0 within test)
counted_at p list i false test within =
    let same : count_by p (take (i + 1) list) ≡ count_by p (take i list) = count_by_more_no p list i 0 within test in
    omega (arith, same)

-- one bound more
pub counted_next : (p : ℕ → Bool) (list : List ℕ) (i below : ℕ) → i < length list → below ≡ count_by p (take i list)
    → below + (if p (get_or list i 0) then 1 else 0) ≡ count_by p (take (i + 1) list)
counted_next p list i below within so_far =
    ap (λ n. n + (if p (get_or list i 0) then 1 else 0)) so_far ∙ counted_at p list i (p (get_or list i 0)) refl within

-- one time more
pub observed_more : (old raised new : Histogram) (times : List ℕ) (time : ℕ)
    → ((other : ℕ) → number_in raised other ≡ (if other == bucket_of time then capped (number_in old other + 1) else number_in old other))
    → raised.sum ≡ old.sum → new ≡ record raised { sum = capped (raised.sum + time) }
    → Observed old times → Observed new (time ∷ times)
observed_more old raised new times time numbers sum is was = record {
  numbers = λ other. ap (λ h. number_in h other) is ∙ numbers other
      ∙ ap (λ n. if other == bucket_of time then capped (n + 1) else n) (was.numbers other)
      ∙ capped_more (other == bucket_of time) 1 (times_in other times);
  total = ap (λ (h : Histogram). h.sum) is ∙ ap (λ n. capped (n + time)) (sum ∙ was.total) ∙ capped_more true time (sum_of times);
}

-- at most one more
one_if_most : (b : Bool) (below i : ℕ) → below ≤ i → below + (if b then 1 else 0) ≤ i + 1
one_if_most true below i few = omega arith
one_if_most false below i few = omega arith

pub few_next : (b : Bool) (below new i : ℕ) → new ≡ below + (if b then 1 else 0) → below ≤ i → new ≤ i + 1
few_next b below new i is few = subst (λ n. n ≤ i + 1) (sym is) (one_if_most b below i few)
