-- The earliest timer of several lists is what the map has as due.
use Rattle.fp_timers.proofs.Names.{All-append, All-weaker, AreApart, Bool, ComesAfter, IsEarliestAfter, IsEarliestDueAfter, IsTimerAt, List, None, Option, Some, Timer, ap, arith, cases_lt, cases_order, comes_before, cond, earlier, false, get, get_or-append-add, get_or_append_left, get_or_default, inl, inr, is_after, joined, length, length-append, nat_tests, refl, subst, sym, timer_at, true, ℕ, ◌++◌, ◌+◌, ◌<◌, ◌∙◌, ◌≡◌, ◌≤◌, ◌⊎◌}
use Rattle.fp_timers.proofs.Lookups.{found}
use Rattle.fp_timers.proofs.Maps.{map_of, get-map_of, present}
use Rattle.fp_timers.proofs.Order.{past_end}

-- the timer isn't after a deadline of an identifier
abbrev NotAfter : Timer → ℕ → ℕ → Type 0
NotAfter t local deadline = (t.deadline < deadline) ⊎ ((t.deadline ≡ deadline) × (t.local ≤ local))

-- a timer isn't after another that doesn't come before it
compared : (t u : Timer) → comes_before u t ≡ false → NotAfter t u.local u.deadline
compared t u h = by (cases_order t.deadline u.deadline) (cases_lt u.local t.local)
  where
    by : (t.deadline ≡ u.deadline) ⊎ ((t.deadline < u.deadline) ⊎ (u.deadline < t.deadline)) → (u.local < t.local) ⊎ (t.local ≤ u.local) → NotAfter t u.local u.deadline
    by (inl e) (inl lt) = absurd (grind (arith, nat_tests, h, e, lt))
    by (inl e) (inr le) = inr (e, le)
    by (inr (inl lt)) _ = inl lt
    by (inr (inr lt)) _ = absurd (grind (arith, nat_tests, h, lt))

-- what doesn't come before a timer doesn't come before one that comes before it
not_before_earlier : (x t u : Timer) → comes_before u t ≡ true → comes_before x t ≡ false → comes_before x u ≡ false
not_before_earlier x t u p q = grind (arith, nat_tests)

-- what doesn't come before a timer doesn't come before one before which that doesn't come
not_before_first : (x t u : Timer) → comes_before u t ≡ false → comes_before x u ≡ false → comes_before x t ≡ false
not_before_first x t u p q = grind (arith, nat_tests)

-- a timer of either list is one of both
left : (l r : List Timer) (t : Timer) (place : ℕ) → IsTimerAt l t place → IsTimerAt (l ++ r) t place
left l r t place at = record { in_range = omega (arith, at.in_range, length-append l r); is_timer = get_or_append_left l r past_end place at.in_range ∙ at.is_timer }

right : (l r : List Timer) (t : Timer) (place : ℕ) → IsTimerAt r t place → IsTimerAt (l ++ r) t (length l + place)
right l r t place at = record { in_range = omega (arith, at.in_range, length-append l r); is_timer = get_or-append-add l r place past_end ∙ at.is_timer }

-- a timer either comes after the last or doesn't
not_both : (last : Option Timer) (x t : Timer) → is_after last x ≡ false → is_after last x ≡ true → comes_before x t ≡ false
not_both last x t before is = absurd (let clash : false ≡ true = sym before ∙ is in cc)

-- the earlier one of the earliest of two lists is the earliest of both
earliest_append : (last : Option Timer) (l r : List Timer) (a b : Option Timer) → IsEarliestAfter last l a → IsEarliestAfter last r b → IsEarliestAfter last (l ++ r) (earlier a b)
earliest_append last l r None None p q = All-append (λ x. is_after last x ≡ false) l r p q
earliest_append last l r None (Some u) p q = (
  (length l + q.0.0, right l r u q.0.0 q.0.1),
  q.1,
  All-append (λ x. is_after last x ≡ true → comes_before x u ≡ false) l r (All-weaker (λ x. is_after last x ≡ false) (λ x. is_after last x ≡ true → comes_before x u ≡ false) (λ x. not_both last x u) l p) q.2,
)
earliest_append last l r (Some t) None p q = (
  (p.0.0, left l r t p.0.0 p.0.1),
  p.1,
  All-append (λ x. is_after last x ≡ true → comes_before x t ≡ false) l r p.2 (All-weaker (λ x. is_after last x ≡ false) (λ x. is_after last x ≡ true → comes_before x t ≡ false) (λ x. not_both last x t) r q),
)
earliest_append last l r (Some t) (Some u) p q = by (comes_before u t) refl
  where
    by : (b : Bool) → comes_before u t ≡ b → IsEarliestAfter last (l ++ r) (cond b (Some u) (Some t))
    by true e = (
      (length l + q.0.0, right l r u q.0.0 q.0.1),
      q.1,
      All-append (λ x. is_after last x ≡ true → comes_before x u ≡ false) l r (All-weaker (λ x. is_after last x ≡ true → comes_before x t ≡ false) (λ x. is_after last x ≡ true → comes_before x u ≡ false) (λ x h after. not_before_earlier x t u e (h after)) l p.2) q.2,
    )
    by false e = (
      (p.0.0, left l r t p.0.0 p.0.1),
      p.1,
      All-append (λ x. is_after last x ≡ true → comes_before x t ≡ false) l r p.2 (All-weaker (λ x. is_after last x ≡ true → comes_before x u ≡ false) (λ x. is_after last x ≡ true → comes_before x t ≡ false) (λ x h after. not_before_first x t u e (h after)) r q.2),
    )

-- so is that of four lists
pub earliest_joined : (last : Option Timer) (a b c d : List Timer) (oa ob oc od late rest all : Option Timer)
    → IsEarliestAfter last a oa → IsEarliestAfter last b ob → IsEarliestAfter last c oc → IsEarliestAfter last d od
    → late ≡ earlier oc od → rest ≡ earlier ob late → all ≡ earlier oa rest → IsEarliestAfter last (joined a b c d) all
earliest_joined last a b c d oa ob oc od late rest all ha hb hc hd e f g =
    let fourth = subst (IsEarliestAfter last (c ++ d)) (sym e) (earliest_append last c d oc od hc hd) in
    let others = subst (IsEarliestAfter last (b ++ (c ++ d))) (sym f) (earliest_append last b (c ++ d) ob late hb fourth) in
    subst (IsEarliestAfter last (joined a b c d)) (sym g) (earliest_append last a (b ++ (c ++ d)) oa rest ha others)

-- whether a timer comes after the last is what the order says
after_is : (last : Option Timer) (t : Timer) → is_after last t ≡ true → ComesAfter last (t.deadline, t.local)
after_is None t e = tt
after_is (Some last) t e = by (cases_order last.deadline t.deadline)
  where
    by : (last.deadline ≡ t.deadline) ⊎ ((last.deadline < t.deadline) ⊎ (t.deadline < last.deadline)) → ComesAfter (Some last) (t.deadline, t.local)
    by (inl same) = inr (same, grind (arith, nat_tests, e, same))
    by (inr (inl less)) = inl less
    by (inr (inr more)) = absurd (grind (arith, nat_tests, e, more))

is_after_if : (last : Option Timer) (t : Timer) → ComesAfter last (t.deadline, t.local) → is_after last t ≡ true
is_after_if None t e = refl
is_after_if (Some last) t (inl less) = grind (arith, nat_tests, less)
is_after_if (Some last) t (inr both) = grind (arith, nat_tests, both.0, both.1)

-- a deadline that comes after the last is a timer's, which does
record Later (l : List Timer) (last : Option Timer) (local deadline : ℕ) : Type 0 where
  place : ℕ
  in_range : place < length l
  has_local : (timer_at l place).local ≡ local
  has_deadline : (timer_at l place).deadline ≡ deadline
  after : is_after last (timer_at l place) ≡ true

later : (l : List Timer) (last : Option Timer) (local deadline : ℕ) → get (map_of l) local ≡ Some deadline → ComesAfter last (deadline, local) → Later l last local deadline
later l last local deadline is after =
    let f = found l local deadline (sym (get-map_of l local) ∙ is) in
    record {
      place = f.place;
      in_range = f.in_range;
      has_local = f.has_local;
      has_deadline = f.has_deadline;
      after = is_after_if last (timer_at l f.place) (rw (f.has_local, f.has_deadline) after);
    }

-- no timer comes after the last, so none is due
pub none_due : (l : List Timer) (last : Option Timer) (moment : ℕ) → IsEarliestAfter last l None → IsEarliestDueAfter (map_of l) last moment None
none_due l last moment none local deadline is after =
    let f = later l last local deadline is after in
    absurd (let clash : false ≡ true = sym (none f.place past_end f.in_range) ∙ f.after in cc)

module _ (l : List Timer) (last : Option Timer) (t : Timer) (first : IsEarliestAfter last l (Some t)) where
  -- no timer after the last comes before it
  not_after : (local deadline : ℕ) → get (map_of l) local ≡ Some deadline → ComesAfter last (deadline, local) → NotAfter t local deadline
  not_after local deadline is after =
      let f = later l last local deadline is after in
      subst (NotAfter t local) f.has_deadline (subst (λ o. NotAfter t o (timer_at l f.place).deadline) f.has_local (compared t (timer_at l f.place) (first.2 f.place past_end f.in_range f.after)))

  -- the earliest isn't due, so none is
  pub later_due : (moment : ℕ) → moment < t.deadline → IsEarliestDueAfter (map_of l) last moment None
  later_due moment not_yet local deadline is after = by (not_after local deadline is after)
    where
      by : NotAfter t local deadline → moment < deadline
      by (inl lt) = omega arith
      by (inr e) = omega (arith, e.0)

  -- the earliest is due
  pub first_due : AreApart l → (moment : ℕ) → t.deadline ≤ moment → IsEarliestDueAfter (map_of l) last moment (Some t)
  first_due apart moment due =
      let at = first.0.1 in (
        sym (present l apart t.local first.0.0 (record { in_range = at.in_range; has_local = ap (λ (u : Timer). u.local) at.is_timer }) t (sym at.is_timer ∙ get_or_default l first.0.0 past_end t at.in_range)),
        after_is last t first.1,
        due,
        not_after,
      )
