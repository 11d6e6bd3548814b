-- Timers, each of another identifier, as a finite map.
use Rattle.fp_timers.proofs.Names.{AreApart, FinMap, HasRoom, IsAt, IsInOrder, List, None, Some, Timer, [], ap, arith, cases_lt, cond, contains_key, drop, entries, eq_by_cmp, eqb, false, find, from_entries, get, get-from_entries, get-insert, get-remove, get_or, get_or-remove_above, get_or-remove_below, get_or_default, inl, inr, insert, is_some, len, len-empty, len-insert, length, length-remove, map_insert, map_remove, nat_cmp, nat_cmp-IsAntisymmetric, nat_cmp_total, nat_tests, refl, remove, same_map, set, set-get_or, set_split, subst, suc, sym, take, take-append-drop, timer_at, ℕ, ◌++◌, ◌+◌, ◌<◌, ◌∙◌, ◌∷◌, ◌≡◌, ◌≢◌, ◌≤◌, ◌⊎◌, most_deadlines}
use Rattle.fp_timers.proofs.Lookups.{deadline_in, deadline_in_absent, deadline_in_between}
use Rattle.fp_timers.proofs.Order.{past_end}

-- the map that a list of timers is seen as
abbrev pub map_of : List Timer → FinMap nat_cmp ℕ
map_of l = from_entries (entries l)

-- the order of numbers holds two the same exactly where they are equal
eq_by_cmp-eqb : (q k : ℕ) → eq_by_cmp nat_cmp q k ≡ eqb q k
eq_by_cmp-eqb q k = grind (arith, nat_tests)

-- two maps are the same if each identifier has the same in both
pub same : (m n : FinMap nat_cmp ℕ) → ((q : ℕ) → get m q ≡ get n q) → m ≡ n
same = same_map nat_cmp_total nat_cmp-IsAntisymmetric

-- what a map answers after an edit
pub inserted : (m : FinMap nat_cmp ℕ) (k v q : ℕ) → get (map_insert m k v) q ≡ cond (eqb q k) (Some v) (get m q)
inserted m k v q = get-insert nat_cmp_total m k v q ∙ ap (λ b. cond b (Some v) (get m q)) (eq_by_cmp-eqb q k)

pub removed : (m : FinMap nat_cmp ℕ) (k q : ℕ) → get (map_remove m k) q ≡ cond (eqb q k) None (get m q)
removed m k q = get-remove nat_cmp_total m k q ∙ ap (λ b. cond b None (get m q)) (eq_by_cmp-eqb q k)

-- what is taken away is there no longer
pub gone : (m : FinMap nat_cmp ℕ) (k : ℕ) → get (map_remove m k) k ≡ None
gone m k = grind (arith, nat_tests, removed m k k)

-- the deadline that is there, set again, changes nothing
pub insert_same : (m : FinMap nat_cmp ℕ) (k v : ℕ) → get m k ≡ Some v → map_insert m k v ≡ m
insert_same m k v is = same _ _ (λ q. grind (arith, nat_tests, inserted m k v q, is))

-- a deadline that is taken away first, and then set
pub insert-remove : (m : FinMap nat_cmp ℕ) (k v : ℕ) → map_insert (map_remove m k) k v ≡ map_insert m k v
insert-remove m k v = same _ _ (λ q. grind (arith, nat_tests, inserted m k v q, inserted (map_remove m k) k v q, removed m k q))

-- none is taken away
pub remove_absent : (m : FinMap nat_cmp ℕ) (k : ℕ) → get m k ≡ None → m ≡ map_remove m k
remove_absent m k is = same _ _ (λ q. grind (arith, nat_tests, removed m k q, is))

-- the map finds what the list has
find-entries : (l : List Timer) (q : ℕ) → find nat_cmp q (entries l) ≡ deadline_in l q
find-entries [] q = refl
find-entries (t ∷ l) q = ap (λ b. cond b (Some t.deadline) (find nat_cmp q (entries l))) (eq_by_cmp-eqb q t.local) ∙ ap (cond (eqb q t.local) (Some t.deadline)) (find-entries l q)

-- so it answers as the list
pub get-map_of : (l : List Timer) (q : ℕ) → get (map_of l) q ≡ deadline_in l q
get-map_of l q = get-from_entries nat_cmp_total (entries l) q ∙ find-entries l q

-- each timer is an entry of its own
pub len-map_of : (l : List Timer) → AreApart l → len (map_of l) ≡ length l
len-map_of [] apart = len-empty nat_cmp ℕ
len-map_of (t ∷ l) apart =
    let absent : deadline_in l t.local ≡ None = deadline_in_absent l t.local (λ j lt e. apart 0 (suc j) (omega arith) (omega arith) (sym e)) in
    let new : contains_key (map_of l) t.local ≡ false = ap is_some (get-map_of l t.local ∙ absent) in
    len-insert nat_cmp_total (map_of l) t.local t.deadline
    ∙ ap (λ b. cond b (len (map_of l)) (len (map_of l) + 1)) new
    ∙ omega (arith, len-map_of l (λ i j lt in_range. apart (suc i) (suc j) (omega arith) (omega arith)))

-- identifiers that rise differ
pub apart_in_order : (l : List Timer) → IsInOrder l → AreApart l
apart_in_order l sorted i j lt in_range e = omega (arith, sorted i j lt in_range)

-- a timer among others, none of which is its identifier's
map_of_between : (a b : List Timer) (t : Timer) → get (map_of (a ++ b)) t.local ≡ None → map_of (a ++ t ∷ b) ≡ map_insert (map_of (a ++ b)) t.local t.deadline
map_of_between a b t none = same _ _ (λ q. get-map_of _ q ∙ deadline_in_between a b t (sym (get-map_of _ _) ∙ none) q ∙ grind (arith, inserted (map_of (a ++ b)) t.local t.deadline q, get-map_of (a ++ b) q))

module _ (l : List Timer) (apart : AreApart l) (k : ℕ) where
  module _ (at : ℕ) (is_at : IsAt l k at) where
    -- no other timer is the identifier's
    none_other : get (map_of (remove l at)) k ≡ None
    none_other = get-map_of _ k ∙ deadline_in_absent _ k (λ j lt. by j lt (cases_lt j at))
      where
        by : (j : ℕ) → j < length (remove l at) → (j < at) ⊎ (at ≤ j) → (timer_at (remove l at) j).local ≢ k
        by j lt (inl p) e = apart j at p is_at.in_range (ap (λ (t : Timer). t.local) (sym (get_or-remove_below l at past_end j p is_at.in_range)) ∙ e ∙ sym is_at.has_local)
        by j lt (inr p) e = apart at (j + 1) (omega arith) (omega (arith, length-remove l at is_at.in_range)) (is_at.has_local ∙ sym e ∙ ap (λ (t : Timer). t.local) (get_or-remove_above l at past_end j p is_at.in_range))

    -- a timer of the identifier in this place
    placed : (t : Timer) → k ≡ t.local → map_of (set l at t) ≡ map_insert (map_of (remove l at)) t.local t.deadline
    placed t e = ap map_of (set_split l at t is_at.in_range) ∙ map_of_between (take at l) (drop (suc at) l) t (subst (λ q. get (map_of (remove l at)) q ≡ None) e none_other)

    -- the map is that of the others with this one
    whole : map_of l ≡ map_insert (map_of (remove l at)) (timer_at l at).local (timer_at l at).deadline
    whole = ap map_of (sym (set-get_or l at past_end)) ∙ placed (timer_at l at) (sym is_at.has_local)

    -- its timer's deadline is what the map has
    pub present : (t : Timer) → t ≡ get_or l at t → Some t.deadline ≡ get (map_of l) k
    present t read = ap (λ (t : Timer). Some t.deadline) (read ∙ get_or_default l at t past_end is_at.in_range) ∙ sym (ap (λ m. get m k) whole ∙ grind (arith, nat_tests, inserted (map_of (remove l at)) (timer_at l at).local (timer_at l at).deadline k, is_at.has_local))

    -- its timer is removed: the map has it no longer
    pub map_of-remove : map_of (remove l at) ≡ map_remove (map_of l) k
    map_of-remove = sym (ap (λ m. map_remove m k) whole ∙ same _ _ (λ q. grind (arith, nat_tests, removed (map_insert (map_of (remove l at)) (timer_at l at).local (timer_at l at).deadline) k q, inserted (map_of (remove l at)) (timer_at l at).local (timer_at l at).deadline q, none_other, is_at.has_local)))

    -- its timer is written over: the map has the new deadline
    pub map_of-set : (v : ℕ) → map_of (set l at (record { local = k; deadline = v })) ≡ map_insert (map_of l) k v
    map_of-set v = placed (record { local = k; deadline = v }) refl ∙ ap (λ m. map_insert m k v) map_of-remove ∙ insert-remove (map_of l) k v

  module _ (absent : get (map_of l) k ≡ None) where
    -- no timer is the identifier's
    pub others : (j : ℕ) → j < length l → (timer_at l j).local ≢ k
    others j lt e = absurd (let p = present j (record { in_range = lt; has_local = e }) (timer_at l j) (get_or_default l j _ _ lt) in cc)

    -- a timer is added: the map has its deadline
    pub map_of-insert : (at v : ℕ) → map_of (insert l at (record { local = k; deadline = v })) ≡ map_insert (map_of l) k v
    map_of-insert at v =
        let all = take-append-drop at l in
        map_of_between (take at l) (drop at l) (record { local = k; deadline = v }) (subst (λ xs. get (map_of xs) k ≡ None) (sym all) absent) ∙ ap (λ xs. map_insert (map_of xs) k v) all

    -- the map has room for one more, so the list has
    pub room : HasRoom (map_of l) k → length l < most_deadlines
    room (inl there) = absurd (let gone : contains_key (map_of l) k ≡ false = ap is_some absent in cc)
    room (inr fewer) = omega (arith, len-map_of l apart)
