-- The queue of a book is in the order in which its dialogues became ready; and what each call makes of it.
use Rattle.fp_steps.proofs.Names.{All-filter, All-from_recursion, AllByRecursion, Bool, ByAge, ClocksAt, ClosesAt, ComesFirst, Content, Due, Event, GoesDown, IsReadyBefore, List, LoggedStep, None, OneChanges, Option, Row, Rows, Shelf, Some, Sorted, Sound, Ticks, Tied, TiedAt, [], amount, and_parts, and_right, ap, append-nil, arith, births, by_local, cases_Bool, cases_lt, cond, cond_both, count, count-append, count-cons, count_is, count_without_other, count_without_own, due_of, eq-eqb, eqb, eqb-true, false, false_from_ne_true, false≢true, filter, get, inl, inr, insert, inserted, is_frame_of, is_held, is_ready, joins, keep, kept, left_by, left_of, local_of, named, nat_lt, nat_tests, next_due, not, not-true, one_if, ready, ready_for, recursion_from_All, refl, row_at, row_is_ready, row_waits, same_Some, story, subst, suc, sym, true, true_from_ne_false, turn_out, without, ℕ, ⊎_elim, ◌&&◌, ◌++◌, ◌<◌, ◌∙◌, ◌∷◌, ◌≡◌, ◌≤◌, ◌⊎◌}
use Rattle.fp_steps.proofs.HeldDialogues.{Held, by_option, core_tied, held_at, held_of, row_there, waits_tied}
use Rattle.fp_steps.proofs.TieAtTicks.{among}
use Rattle.fp_steps.proofs.OpenedDialogues.{place_stays}
use Rattle.fp_row.specs.Row.{has_turn_out}

-- lists

-- who is first in a list is in it
pub first_in : (x : ℕ) (xs : List ℕ) → 0 < count x (x ∷ xs)
first_in x xs = let own : one_if (eqb x x) ≡ 1 = ap one_if (eq-eqb x x refl) in omega (arith, count-cons x x xs, own)

pub all_in : (P : ℕ → Type 0) (xs : List ℕ) → ((y : ℕ) → 0 < count y xs → P y) → AllByRecursion P xs
all_in P [] f = tt
all_in P (x ∷ xs) f = (f x (first_in x xs), all_in P xs (λ y h. f y (omega (arith, count-cons y x xs, h))))

pub all_at : (P : ℕ → Type 0) (xs : List ℕ) (y : ℕ) → AllByRecursion P xs → 0 < count y xs → P y
all_at P [] y e h = absurd (omega (arith, h))
all_at P (x ∷ xs) y e h = ⊎_elim (λ s. subst P (eqb-true x y s) e.0)
    (λ n. all_at P xs y e.1 (let none : one_if (eqb x y) ≡ 0 = ap one_if n in omega (arith, count-cons y x xs, none, h)))
    (cases_Bool (eqb x y))

in_either : (y : ℕ) (xs ys : List ℕ) → 0 < count y (xs ++ ys) → (0 < count y xs) ⊎ (0 < count y ys)
in_either y xs ys h =
    ⊎_elim (λ some. inl some) (λ none. inr (let le : count y xs ≤ 0 = none in omega (arith, count-append y xs ys, le, h))) (cases_lt 0 (count y xs))

-- an order is kept by those that stay in it
pub sorted_same : (R Q : ℕ → ℕ → Type 0) (xs : List ℕ) → ((x y : ℕ) → 0 < count x xs → 0 < count y xs → R x y → Q x y) → Sorted R xs → Sorted Q xs
sorted_same R Q [] f s = tt
sorted_same R Q (x ∷ xs) f s = (
  all_in (Q x) xs (λ y h. f x y (first_in x xs) (omega (arith, count-cons y x xs, h)) (all_at (R x) xs y s.0 h)),
  sorted_same R Q xs (λ a b ha hb. f a b (omega (arith, count-cons a x xs, ha)) (omega (arith, count-cons b x xs, hb))) s.1,
)

-- one list stands after another
pub sorted_append : (R : ℕ → ℕ → Type 0) (xs ys : List ℕ) → Sorted R xs → Sorted R ys → ((x y : ℕ) → 0 < count x xs → 0 < count y ys → R x y) → Sorted R (xs ++ ys)
sorted_append R [] ys s t f = t
sorted_append R (x ∷ xs) ys s t f = (
  all_in (R x) (xs ++ ys) (λ y h. ⊎_elim (λ a. all_at (R x) xs y s.0 a) (λ b. f x y (first_in x xs) b) (in_either y xs ys h)),
  sorted_append R xs ys s.1 t (λ a b ha hb. f a b (omega (arith, count-cons a x xs, ha)) hb),
)

-- who stands in the queue is ready

abbrev pub ready_at : Option Row → Bool
ready_at None = false
ready_at (Some row) = row_is_ready row

ready_by : (n d : ℕ) (h : List Event) (o : Option Row) → TiedAt n d (story h d) o → is_ready h d ≡ ready_at o
ready_by n d h None k = ap (λ b. not (turn_out h d) && b) k.waits ∙ and_right (not (turn_out h d)) false refl
ready_by n d h (Some row) k = λ i. not (nat_lt 0 (k.outs i)) && waits_tied k i

pub ready_is : (h : List Event) (s : Shelf) (d : ℕ) → Tied h s → is_ready h d ≡ ready_at (row_at h s d)
ready_is h s d t = ready_by (births h) d h (row_at h s d) (t.rows d)

-- who is ready is held
pub ready_held : {h : List Event} {s : Shelf} (d : ℕ) → Tied h s → is_ready h d ≡ true → (row : Row) × (row_at h s d ≡ Some row) × (row_is_ready row ≡ true)
ready_held {h} {s} d t is = by_option (λ o. ready_at o ≡ true → (row : Row) × (o ≡ Some row) × (row_is_ready row ≡ true)) (row_at h s d)
    (λ was e. absurd (false≢true e)) (λ row was e. (row, refl, e)) (sym (ready_is h s d t) ∙ is)

-- and stands in the queue
pub in_queue : {h : List Event} {s : Shelf} (d : ℕ) → Tied h s → Sound s → is_ready h d ≡ true → count (local_of h d) s.ready ≡ 1
in_queue {h} {s} d t k is =
    let l = local_of h d in let held = ready_held d t is in
    k.ready l ∙ count_is (get s.rows l) ∙ ap (amount ready) (row_there d (get s.rows l) held.0 held.1).0 ∙ ap one_if held.2

-- a dialogue that stands in the queue
pub record InQueue (h : List Event) (s : Shelf) (l : ℕ) : Type 0 where
  pub row : Row
  pub was : get s.rows l ≡ Some row
  pub held : Held h l row.birth row
  pub stands : is_ready h row.birth ≡ true
  pub free : has_turn_out row ≡ false

pub queued_at : {h : List Event} {s : Shelf} (l : ℕ) → Tied h s → Sound s → 0 < count l s.ready → InQueue h s l
queued_at {h} {s} l t k stands = by_option (λ o. 0 < amount ready o → InQueue h s l) (get s.rows l) (λ was c. absurd (omega (arith, c)))
    (λ row was c.
    let held : Held h l row.birth row = held_of l row t was in
    let is : row_is_ready row ≡ true = true_from_ne_false (row_is_ready row) (λ e. let none : one_if (row_is_ready row) ≡ 0 = ap one_if e in omega (arith, c, none)) in
    record { row = row; was = was; held = held; stands = ready_by (births h) row.birth h (Some row) held.tied ∙ is; free = not-true (has_turn_out row) (and_parts (not (has_turn_out row)) (row_waits row) is).0 })
    (subst (λ n. 0 < n) (k.ready l ∙ count_is (get s.rows l)) stands)

-- who isn't ready hasn't been so at all; who is has been so for a while
not_at_all : (h : List Event) (d : ℕ) → is_ready h d ≡ false → ready_for h d ≡ 0
not_at_all [] d r = refl
not_at_all (e ∷ h) d r = ap (λ b. cond b (suc (ready_for h d)) 0) r

a_while : (h : List Event) (d : ℕ) → is_ready h d ≡ true → 0 < ready_for h d
a_while [] d r = absurd (false≢true r)
a_while (e ∷ h) d r = let x : ready_for (e ∷ h) d ≡ suc (ready_for h d) = ap (λ b. cond b (suc (ready_for h d)) 0) r in omega (arith, x)

-- the dialogue is the same, and so is its core, if no turn of it was out
abbrev pub Continues : Row → Row → Type 0
Continues before after = (after.birth ≡ before.birth) × (has_turn_out before ≡ false → after.core ≡ before.core)

-- no identifier goes from one dialogue to another, and no core changes but that of a dialogue whose turn is out
abbrev pub CoresStay : Rows → Rows → Type 0
CoresStay rows then = (l : ℕ) (before after : Row) → get rows l ≡ Some before → get then l ≡ Some after → Continues before after

-- the queue then: those that stay, and those that join it
pub record Joins (h : List Event) (e : Event) (old new : Shelf) : Type 0 where
  pub stay : List ℕ
  pub join : List ℕ
  pub ready_is : new.ready ≡ stay ++ join
  pub stayed : (y : ℕ) → 0 < count y stay → 0 < count y old.ready
  pub order : Sorted (ByAge h) stay
  pub anew : (y : ℕ) → 0 < count y join → count y old.ready ≡ 0
  pub joined : Sorted (ByAge (e ∷ h)) join
  pub cores : CoresStay old.rows new.rows

abbrev pub due_by : ℕ → ℕ → Due
due_by next local = (next, local)

-- a dialogue that stands in the queue then, and was held before with no turn out
pub record Same (h : List Event) (e : Event) (y : ℕ) : Type 0 where
  pub birth : ℕ
  pub was : named h y ≡ Some birth
  pub is : named (e ∷ h) y ≡ Some birth
  pub goes : ready_for (e ∷ h) birth ≡ suc (ready_for h birth)
  -- what is due next of it is the same
  pub due : due_of (e ∷ h) birth ≡ due_of h birth

pub same_dialogue : {h : List Event} (e : Event) {old new : Shelf} (y : ℕ) (before : Row) → Tied h old → Tied (e ∷ h) new → Sound new → CoresStay old.rows new.rows
    → get old.rows y ≡ Some before → has_turn_out before ≡ false → 0 < count y new.ready → Same h e y
same_dialogue {h} e {old} {new} y before t u m cores was free c =
    let b = before.birth in let a : Held h y b before = held_of y before t was in
    let q : InQueue (e ∷ h) new y = queued_at y u m c in
    let same : Continues before q.row = cores y before q.row was q.was in
    let now : Held (e ∷ h) y b q.row = subst (λ d. Held (e ∷ h) y d q.row) same.0 q.held in
    let core = core_tied now.tied ∙ same.1 free ∙ sym (core_tied a.tied) in
    record {
      birth = b;
      was = a.name;
      is = now.name;
      goes = ap (λ r. cond r (suc (ready_for h b)) 0) (subst (λ d. is_ready (e ∷ h) d ≡ true) same.0 q.stands);
      due = λ i. due_by (next_due (core i)) ((sym now.place ∙ a.place) i);
    }

-- one that stands there for the first time
pub newly : {h : List Event} (e : Event) {old new : Shelf} {y : ℕ} → Tied h old → Sound old → count y old.ready ≡ 0
    → (q : InQueue (e ∷ h) new y) → ready_for h q.row.birth ≡ 0
newly {h} e {old} {new} {y} t k none q =
    let b = q.row.birth in
    not_at_all h b (false_from_ne_true (is_ready h b) (λ is.
    let held = ready_held b t is in
    let place : local_of h b ≡ y = sym (place_stays h e b (held_at b held.0 t held.1).last) ∙ sym q.held.place in
    let one : count y old.ready ≡ 1 = ap (λ n. count n old.ready) (sym place) ∙ in_queue b t k is in
    omega (arith, one, none)))

-- which of two comes first, by their births
pub aged : (R : ℕ → ℕ → Type 0) (h : List Event) (x y a b : ℕ) → named h x ≡ Some a → named h y ≡ Some b → R a b → (c d : ℕ) → named h x ≡ Some c → named h y ≡ Some d → R c d
aged R h x y a b at_x at_y before c d is_c is_d = subst (λ c. R c d) (same_Some a c (sym at_x ∙ is_c)) (subst (R a) (same_Some b d (sym at_y ∙ is_d)) before)

stays_before : (h : List Event) (e : Event) (c d : ℕ) → ready_for (e ∷ h) c ≡ suc (ready_for h c) → ready_for (e ∷ h) d ≡ suc (ready_for h d) → due_of (e ∷ h) c ≡ due_of h c
    → due_of (e ∷ h) d ≡ due_of h d → IsReadyBefore h c d → IsReadyBefore (e ∷ h) c d
stays_before h e c d goes_c goes_d due_c due_d (inl less) = inl (let l : ready_for h d < ready_for h c = less in omega (arith, l, goes_c, goes_d))
stays_before h e c d goes_c goes_d due_c due_d (inr same) = inr (
  (let s : ready_for h c ≡ ready_for h d = same.0 in omega (arith, s, goes_c, goes_d)),
  subst (λ (x : Due). ComesFirst x (due_of (e ∷ h) d)) (sym due_c) (subst (λ (x : Due). ComesFirst (due_of h c) x) (sym due_d) same.1),
)

pub Order-next : {h : List Event} {e : Event} {old new : Shelf} → Tied h old → Sound old → Tied (e ∷ h) new → Sound new → Joins h e old new → Sorted (ByAge (e ∷ h)) new.ready
Order-next {h} {e} {old} {new} t k u m g =
    let in_new : (y : ℕ) → 0 < count y g.stay → 0 < count y new.ready = λ y c. omega (arith, ap (count y) g.ready_is, count-append y g.stay g.join, c) in
    let now : (y : ℕ) → 0 < count y g.join → InQueue (e ∷ h) new y = λ y c. queued_at y u m (omega (arith, ap (count y) g.ready_is, count-append y g.stay g.join, c)) in
    let was : (y : ℕ) → 0 < count y g.stay → InQueue h old y = λ y c. queued_at y t k (g.stayed y c) in
    let still : (y : ℕ) → 0 < count y g.stay → Same h e y = λ y c. same_dialogue e y (was y c).row t u m g.cores (was y c).was (was y c).free (in_new y c) in
    let stay : Sorted (ByAge (e ∷ h)) g.stay = sorted_same (ByAge h) (ByAge (e ∷ h)) g.stay
    (λ x y cx cy age.
    let a = still x cx in let b = still y cy in
    aged (IsReadyBefore (e ∷ h)) (e ∷ h) x y a.birth b.birth a.is b.is (stays_before h e a.birth b.birth a.goes b.goes a.due b.due (age a.birth b.birth a.was b.was)))
    g.order in
    let behind : (x y : ℕ) → 0 < count x g.stay → 0 < count y g.join → ByAge (e ∷ h) x y = λ x y cx cy.
    let a = still x cx in let q = now y cy in let b = q.row.birth in
    let goes_b : ready_for (e ∷ h) b ≡ suc (ready_for h b) = ap (λ r. cond r (suc (ready_for h b)) 0) q.stands in
    let none : ready_for h b ≡ 0 = newly e t k (g.anew y cy) q in
    let some : 0 < ready_for h a.birth =
    a_while h a.birth (subst (λ d. is_ready h d ≡ true) (same_Some (was x cx).row.birth a.birth (sym (was x cx).held.name ∙ a.was)) (was x cx).stands)
    in
    aged (IsReadyBefore (e ∷ h)) (e ∷ h) x y a.birth b a.is q.held.name (inl (omega (arith, goes_b, none, some, a.goes)))
    in
    subst (Sorted (ByAge (e ∷ h))) (sym g.ready_is) (sorted_append (ByAge (e ∷ h)) g.stay g.join stay g.joined behind)

-- EACH CALL

-- the dialogues are the same
same_row : (before after : Row) → after ≡ before → Continues before after
same_row before after same = (ap (λ (r : Row). r.birth) same, λ free. ap (λ (r : Row). r.core) same)

pub cores_same : (rows : Rows) → CoresStay rows rows
cores_same rows l before after was is = same_row before after (same_Some after before (sym is ∙ was))

-- one changes
cores_one : {rows then : Rows} {local : ℕ} (row : Row) {left : Option Row} → OneChanges rows then local (Some row) left → ((after : Row) → left ≡ Some after → Continues row after) → CoresStay rows then
cores_one {rows} {then} {local} row one same l before after was is =
    by_local l local (λ l. get rows l ≡ Some before → get then l ≡ Some after → Continues before after)
    (λ w i. subst (λ (r : Row). Continues r after) (same_Some row before (sym one.was ∙ w)) (same after (sym one.there ∙ i)))
    (λ ne w i. same_row before after (same_Some after before (sym i ∙ one.others l ne ∙ w)))
    was is

-- one is opened
pub cores_new : (rows : Rows) (local : ℕ) (opened : Row) → get rows local ≡ None → CoresStay rows (insert rows local opened)
cores_new rows local opened none l before after was is =
    let one : OneChanges rows (insert rows local opened) local None (Some opened) = inserted rows local None opened none in
    by_local l local (λ l. get rows l ≡ Some before → get (insert rows local opened) l ≡ Some after → Continues before after)
    (λ w i. absurd (let clash : None ≡ Some before = sym one.was ∙ w in cc))
    (λ ne w i. same_row before after (same_Some after before (sym i ∙ one.others l ne ∙ w)))
    was is

left_same : (g row after : Row) → Continues row g → left_of g ≡ Some after → Continues row after
left_same g row after same e = subst (Continues row) (left_by (is_held g) g after e).1 same

-- one is put in its place, or what is left of it
pub cores_put : (rows : Rows) (local : ℕ) (before after : Row) → get rows local ≡ Some before → Continues before after → CoresStay rows (insert rows local after)
cores_put rows local before after was same =
    cores_one before (inserted rows local (Some before) after was) (λ then e. subst (Continues before) (same_Some after then e) same)

pub cores_left : (rows : Rows) (local : ℕ) (before after : Row) → get rows local ≡ Some before → Continues before after → CoresStay rows (keep rows local after)
cores_left rows local before after was same = cores_one before (kept rows local (Some before) after was) (λ then e. left_same after before then same e)

-- a dialogue stands once in a queue at most
one_most : (b : Bool) → one_if b ≤ 1
one_most b = grind (arith, nat_tests)

amount_most : (o : Option Row) → amount ready o ≤ 1
amount_most None = omega arith
amount_most (Some row) = one_most (row_is_ready row)

once : {s : Shelf} (y : ℕ) → Sound s → count y s.ready ≤ 1
once {s} y k = let is : count y s.ready ≡ amount ready (get s.rows y) = k.ready y ∙ count_is (get s.rows y) in omega (arith, is, amount_most (get s.rows y))

sorted_joins : (R : ℕ → ℕ → Type 0) (l : ℕ) (b : Bool) → Sorted R (joins l b)
sorted_joins R l true = (tt, tt)
sorted_joins R l false = tt

-- who joins wasn't there
pub anew_by : (old : Shelf) {new : Shelf} (join : List ℕ) → Sound new → new.ready ≡ old.ready ++ join → (y : ℕ) → 0 < count y join → count y old.ready ≡ 0
anew_by old {new} join m is y c = let few : count y new.ready ≤ 1 = once y m in omega (arith, few, ap (count y) is, count-append y old.ready join, c)

-- one joins after the others, or none
pub joins_one : {h : List Event} {e : Event} {old new : Shelf} (l : ℕ) (b : Bool) → Sound new → new.ready ≡ old.ready ++ joins l b → CoresStay old.rows new.rows
    → Sorted (ByAge h) old.ready → Joins h e old new
joins_one {h} {e} {old} l b m is cores order = record {
  stay = old.ready;
  join = joins l b;
  ready_is = is;
  stayed = λ y c. c;
  order = order;
  anew = anew_by old (joins l b) m is;
  joined = sorted_joins (ByAge (e ∷ h)) l b;
  cores = cores;
}

-- some of those stay
pub joins_none : {h : List Event} {e : Event} {old new : Shelf} (stay : List ℕ) → new.ready ≡ stay → ((y : ℕ) → 0 < count y stay → 0 < count y old.ready)
    → Sorted (ByAge h) stay → CoresStay old.rows new.rows → Joins h e old new
joins_none stay is stayed order cores = record {
  stay = stay;
  join = [];
  ready_is = is ∙ sym (append-nil stay);
  stayed = stayed;
  order = order;
  anew = λ y c. absurd (omega (arith, c));
  joined = tt;
  cores = cores;
}

pub joins_same : {h : List Event} {e : Event} {old new : Shelf} → new.ready ≡ old.ready → Sorted (ByAge h) old.ready → CoresStay old.rows new.rows → Joins h e old new
joins_same {old} is order cores = joins_none old.ready is (λ y c. c) order cores

-- those that are left of an ordered list are in order
pub sorted_filter : (R : ℕ → ℕ → Type 0) (p : ℕ → Bool) (xs : List ℕ) → Sorted R xs → Sorted R (filter p xs)
sorted_filter R p [] s = tt
sorted_filter R p (x ∷ xs) s = cond_both (p x) (x ∷ filter p xs) (filter p xs) (Sorted R)
    (λ e. (recursion_from_All (R x) (filter p xs) (All-filter p (R x) xs (All-from_recursion (R x) xs s.0)), sorted_filter R p xs s.1))
    (λ e. sorted_filter R p xs s.1)

-- one leaves
pub joins_without : {h : List Event} {e : Event} {old new : Shelf} (l : ℕ) → new.ready ≡ without l old.ready → Sorted (ByAge h) old.ready → CoresStay old.rows new.rows → Joins h e old new
joins_without {h} {old} l is order cores = joins_none (without l old.ready) is
    (λ y c. grind (arith, nat_tests, count_without_own l old.ready, count_without_other y l old.ready))
    (sorted_filter (ByAge h) (λ other. not (eqb other l)) old.ready order) cores

-- the end of a link
closed_same : (sending : Bool) (before : Row) (left : Option Row) (after : Row) → ClosesAt sending (Some before) left → left ≡ Some after → Continues before after
closed_same sending before left after c is = left_same c.after before after (c.ends.same.birth, λ free. c.ends.core) (sym c.left_is ∙ is)

pub cores_closed : {out : Option Content} {old : Shelf} {step : LoggedStep} {new : Shelf} → GoesDown out old step new → CoresStay old.rows new.rows
cores_closed {out} {new} g l before after was is =
    closed_same (is_frame_of l out) before (get new.rows l) after (subst (λ o. ClosesAt (is_frame_of l out) o (get new.rows l)) was (g.rows l)) is

-- a tick

clocked_same : (x : Bool) (moment : ℕ) (before after : Row) → ClocksAt x moment (Some before) (Some after) → Continues before after
clocked_same false moment before after c = same_row before after (same_Some after before c)
clocked_same true moment before after c = (c.same.birth, λ free. c.stay.core)

pub cores_ticked : {old new : Shelf} {moment added wanting : ℕ} → Ticks old moment added wanting new → CoresStay old.rows new.rows
cores_ticked {new} {moment} g l before after was is =
    clocked_same (among l g.due) moment before after (subst (λ o. ClocksAt (among l g.due) moment (Some before) o) is (subst (λ o. ClocksAt (among l g.due) moment o (get new.rows l)) was (g.rows l)))
