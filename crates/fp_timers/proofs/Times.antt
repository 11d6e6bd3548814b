-- Timers in the order of their deadlines, and what a search finds among them.
use Rattle.fp_timers.proofs.Names.{All, Bool, IsEarliestAfter, IsInTimeOrder, IsPartitionedBy, IsPlaceAfter, IsPlaceFor, IsTimerAt, List, Option, Some, Timer, ap, arith, cases_order, comes_before, false, get_or, get_or_default, inl, inr, is_after, length, nat_tests, not, refl, subst, sym, timer_at, true, ℕ, ◌-◌, ◌<◌, ◌∙◌, ◌≡◌, ◌≢◌, ◌⊎◌}
use Rattle.fp_timers.proofs.Order.{past_end}

-- what comes before one that comes before a third comes before that
comes_before-trans : (a b c : Timer) → comes_before a b ≡ true → comes_before b c ≡ true → comes_before a c ≡ true
comes_before-trans a b c p q = grind (arith, nat_tests)

-- what comes before another doesn't come after it, nor before itself
comes_before-asym : (a b : Timer) → comes_before a b ≡ true → comes_before b a ≡ false
comes_before-asym a b p = grind (arith, nat_tests)

comes_before-irrefl : (a : Timer) → comes_before a a ≡ false
comes_before-irrefl a = grind (arith, nat_tests)

-- of two identifiers' timers one comes before the other
pub comes_before_other : (a b : Timer) → comes_before b a ≡ false → b.local ≢ a.local → comes_before a b ≡ true
comes_before_other a b not_before apart = grind (arith, nat_tests)

module _ (l : List Timer) (sorted : IsInTimeOrder l) (t : Timer) where
  -- those that come before a timer are at the front
  pub parted : IsPartitionedBy (λ (x : Timer). comes_before x t) l
  parted i j d le in_range before =
      let at_i = get_or_default l i d past_end (omega arith) in
      let at_j = get_or_default l j d past_end in_range in
      rw at_i (by (cases_order i j) (rw at_j at before))
    where
      by : (i ≡ j) ⊎ ((i < j) ⊎ (j < i)) → comes_before (timer_at l j) t ≡ true → comes_before (timer_at l i) t ≡ true
      by (inl e) h = rw e h
      by (inr (inl lt)) h = comes_before-trans (timer_at l i) (timer_at l j) t (sorted i j lt in_range) h
      by (inr (inr lt)) h = absurd (omega arith)

  -- the last comes before it, so all do
  pub last_place : (x : Timer) (n : ℕ) → n ≡ length l → 0 < n → x ≡ get_or l (n - 1) x → comes_before x t ≡ true → IsPlaceFor l t (length l)
  last_place x n all some read before =
      let last : timer_at l (n - 1) ≡ x = sym (read ∙ get_or_default l (n - 1) x past_end (omega arith)) in
      record {
        in_range = omega arith;
        earlier_before = λ i lt. parted i (n - 1) past_end (omega arith) (omega arith) (ap (λ u. comes_before u t) last ∙ before);
        none_after = λ i le lt. absurd (omega arith);
      }

  -- the first doesn't come before it, so none does
  pub first_place : (x : Timer) → 0 < length l → x ≡ get_or l 0 x → comes_before x t ≡ false → IsPlaceFor l t 0
  first_place x some read not_before = record {
    in_range = omega arith;
    earlier_before = λ i lt. absurd (omega arith);
    none_after = λ i le lt. by i lt (comes_before (timer_at l i) t) refl;
  }
    where
      first : timer_at l 0 ≡ x
      first = sym (read ∙ get_or_default l 0 x past_end some)

      by : (i : ℕ) → i < length l → (b : Bool) → comes_before (timer_at l i) t ≡ b → comes_before (timer_at l i) t ≡ false
      by i lt true e = absurd (let clash : false ≡ true = sym not_before ∙ ap (λ u. comes_before u t) (sym first) ∙ parted 0 i past_end (omega arith) lt e in cc)
      by i lt false e = e

  -- the place for a timer is its own, if it is there
  own_place : (place k : ℕ) → IsPlaceFor l t place → k < length l → timer_at l k ≡ t → place ≡ k
  own_place place k is lt e = by (cases_order place k)
    where
      by : (place ≡ k) ⊎ ((place < k) ⊎ (k < place)) → place ≡ k
      by (inl same) = same
      by (inr (inl below)) = absurd (let clash : false ≡ true = sym (is.none_after place (omega arith) (omega arith)) ∙ ap (comes_before (timer_at l place)) (sym e) ∙ sorted place k below lt in cc)
      by (inr (inr above)) = absurd (let clash : comes_before t t ≡ true = ap (λ u. comes_before u t) (sym e) ∙ is.earlier_before k above in grind (arith, nat_tests, clash))

  -- it isn't at its place, so it is nowhere
  pub nowhere : (place : ℕ) → IsPlaceFor l t place → (IsTimerAt l t place → ⊥) → All (λ other. other ≢ t) l
  nowhere place is none k d lt e =
      let at_k : timer_at l k ≡ t = get_or_default l k past_end d lt ∙ e in
      none (subst (IsTimerAt l t) (sym (own_place place k is lt at_k)) (record { in_range = lt; is_timer = at_k }))

-- what comes before one that doesn't come after a timer doesn't either
not_after_earlier : (last x y : Timer) → comes_before x y ≡ true → not (comes_before last y) ≡ true → not (comes_before last x) ≡ true
not_after_earlier last x y p q = grind (arith, nat_tests)

module _ (l : List Timer) (sorted : IsInTimeOrder l) where
  -- those that don't come after a timer are at the front
  pub parted_after : (last : Timer) → IsPartitionedBy (λ (x : Timer). not (comes_before last x)) l
  parted_after last i j d le in_range before =
      let at_i = get_or_default l i d past_end (omega arith) in
      let at_j = get_or_default l j d past_end in_range in
      rw at_i (by (cases_order i j) (rw at_j at before))
    where
      by : (i ≡ j) ⊎ ((i < j) ⊎ (j < i)) → not (comes_before last (timer_at l j)) ≡ true → not (comes_before last (timer_at l i)) ≡ true
      by (inl e) h = rw e h
      by (inr (inl lt)) h = not_after_earlier last (timer_at l i) (timer_at l j) (sorted i j lt in_range) h
      by (inr (inr lt)) h = absurd (omega arith)

  -- the first of those that come after the last comes before all others of them
  pub earliest_after : (last : Option Timer) (t : Timer) (place : ℕ) → IsPlaceAfter l last place → place < length l → t ≡ get_or l place t → IsEarliestAfter last l (Some t)
  earliest_after last t place is within read = (
    (place, record { in_range = within; is_timer = here }),
    ap (is_after last) (sym here) ∙ is.all_after place (omega arith) within,
    λ k d lt. subst (λ u. is_after last u ≡ true → comes_before u t ≡ false) (sym (get_or_default l k d past_end lt)) (by k lt (cases_order place k)),
  )
    where
      here : timer_at l place ≡ t
      here = sym (read ∙ get_or_default l place t past_end within)

      by : (k : ℕ) → k < length l → (place ≡ k) ⊎ ((place < k) ⊎ (k < place)) → is_after last (timer_at l k) ≡ true → comes_before (timer_at l k) t ≡ false
      by k lt (inl e) after = ap (λ n. comes_before (timer_at l n) t) (sym e) ∙ ap (λ u. comes_before u t) here ∙ comes_before-irrefl t
      by k lt (inr (inl less)) after = comes_before-asym t (timer_at l k) (ap (λ u. comes_before u (timer_at l k)) (sym here) ∙ sorted place k less lt)
      by k lt (inr (inr less)) after = absurd (let clash : false ≡ true = sym (is.none_before k less) ∙ after in cc)
