-- A timer that is added where it belongs leaves the timers in order, whatever the order is.
use Rattle.fp_timers.proofs.Names.{List, Timer, arith, cases_lt, cases_order, get_or-insert_above, get_or-insert_at, get_or-insert_below, get_or-remove_above, get_or-remove_below, inl, inr, insert, length, length-insert, length-remove, remove, subst, timer_at, ℕ, ◌+◌, ◌-◌, ◌<◌, ◌≡◌, ◌≤◌, ◌⊎◌}

-- the default that `timer_at` reads beyond the end
abbrev pub past_end : Timer
past_end = record { local = 0; deadline = 0 }

-- this holds of each timer and those that follow it
abbrev pub Rises : (Timer → Timer → Type 0) → List Timer → Type 0
Rises R l = (i j : ℕ) → i < j → j < length l → R (timer_at l i) (timer_at l j)

module _ (R : Timer → Timer → Type 0) (l : List Timer) (rises : Rises R l) (at : ℕ) where
  -- the same of equal timers
  alike : (a b c d : Timer) → c ≡ a → d ≡ b → R a b → R c d
  alike a b c d p q h = rw (p, q) h

  -- each timer is an old one below the place, the new one, or an old one moved up by one
  pub rises_insert : (t : Timer) → at ≤ length l → ((i : ℕ) → i < at → R (timer_at l i) t) → ((i : ℕ) → at ≤ i → i < length l → R t (timer_at l i)) → Rises R (insert l at t)
  rises_insert t within before after i j lt in_range = by (cases_order j at) (cases_order i at)
    where
      below : (k : ℕ) → k < at → timer_at (insert l at t) k ≡ timer_at l k
      below k h = get_or-insert_below l at t past_end k h within

      here : (k : ℕ) → k ≡ at → timer_at (insert l at t) k ≡ t
      here k e = rw e (get_or-insert_at l at t past_end within)

      above : (k : ℕ) → at < k → timer_at (insert l at t) k ≡ timer_at l (k - 1)
      above k h = subst (λ q. timer_at (insert l at t) q ≡ timer_at l (k - 1)) {x = k - 1 + 1} (omega arith) (get_or-insert_above l at t past_end (k - 1) (omega arith) within)

      fits : j < length l + 1
      fits = omega (arith, length-insert l at t within)

      by : (j ≡ at) ⊎ ((j < at) ⊎ (at < j)) → (i ≡ at) ⊎ ((i < at) ⊎ (at < i)) → R (timer_at (insert l at t) i) (timer_at (insert l at t) j)
      by (inl q) _ = alike _ _ _ _ (below i (omega arith)) (here j q) (before i (omega arith))
      by (inr (inl q)) _ = alike _ _ _ _ (below i (omega arith)) (below j q) (rises i j lt (omega arith))
      by (inr (inr q)) (inl p) = alike _ _ _ _ (here i p) (above j q) (after (j - 1) (omega arith) (omega (arith, fits)))
      by (inr (inr q)) (inr (inl p)) = alike _ _ _ _ (below i p) (above j q) (rises i (j - 1) (omega arith) (omega (arith, fits)))
      by (inr (inr q)) (inr (inr p)) = alike _ _ _ _ (above i p) (above j q) (rises (i - 1) (j - 1) (omega arith) (omega (arith, fits)))

  -- each timer is an old one below the place, or one moved down by one
  pub rises_remove : at < length l → Rises R (remove l at)
  rises_remove within i j lt in_range = by (cases_lt i at) (cases_lt j at)
    where
      below : (k : ℕ) → k < at → timer_at (remove l at) k ≡ timer_at l k
      below k h = get_or-remove_below l at past_end k h within

      above : (k : ℕ) → at ≤ k → timer_at (remove l at) k ≡ timer_at l (k + 1)
      above k h = get_or-remove_above l at past_end k h within

      fits : j + 1 < length l
      fits = omega (arith, length-remove l at within)

      by : (i < at) ⊎ (at ≤ i) → (j < at) ⊎ (at ≤ j) → R (timer_at (remove l at) i) (timer_at (remove l at) j)
      by (inl p) (inl q) = alike _ _ _ _ (below i p) (below j q) (rises i j lt (omega (arith, fits)))
      by (inl p) (inr q) = alike _ _ _ _ (below i p) (above j q) (rises i (j + 1) (omega arith) fits)
      by (inr p) (inl q) = absurd (omega arith)
      by (inr p) (inr q) = alike _ _ _ _ (above i p) (above j q) (rises (i + 1) (j + 1) (omega arith) fits)
