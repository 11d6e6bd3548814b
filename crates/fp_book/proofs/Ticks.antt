-- One dialogue that is due is given a Clock, and so each; what a book is then.
use Rattle.fp_book.proofs.Names.{All, All-nil, All-push, AreAgreed, AreTimed, Bool, Clocking, ClocksAt, ClocksNext, ComesAfter, ComesFirst, Deadlines, Due, Entry, Extends, IsDue, IsDueIn, IsEarliestDue, IsEarliestDueAfter, List, LoggedStep, None, Option, Row, Shelf, Some, Stays, Ticks, Timer, [], add-zero, all_pairs_push, ap, append-nil, append_assoc, arith, cond, count_by, deadline_at, deadline_of, drop, drop-append-le, due_at, due_now, eq-eqb, eqb, eqb-false, false, false_from_ne_true, false≢true, filter, filter-append, has_clock, idle_among, inl, inr, is_admitted, is_among, is_clock, is_due, is_full, is_idle, is_ready, is_some, joins, le-leb, length, length-append, list_any-append, logged, lt-ltb, map, map-append, nat_cmp, nat_cmp_total, nat_eq, nat_le, nat_tests, next_due, not, one_if, option_map_or, or-false, or-true, refl, slice_index_or, subst, suc, sum_by-append, sum_of, sym, true, turns_of, unserved, zero, ℕ, ⊎_elim, ◌&&◌, ◌++◌, ◌+◌, ◌-◌, ◌<◌, ◌||◌, ◌∙◌, ◌∷◌, ◌≡◌, ◌≤◌, ◌⊎◌, most_dialogues}
use Rattle.std.specs.FinMap as map
use Rattle.fp_book.proofs.Changes.{by_local, ready}
use Rattle.fp_book.proofs.Sums.{Rows, len-sum, sum-zero, sums-le, zero_of, OneChanges, inserted}
use Rattle.fp_book.specs.declared.line.LoggedStep.TheVariants as line
use Rattle.fp_book.proofs.Clocks.{clock, few_pass, has_deadline, in_front, joins_is}
use Rattle.fp_book.proofs.Extends.{joined}
use Rattle.fp_book.proofs.Kept.{deadline-here, deadline-other, timed_at}
use Rattle.fp_book.proofs.Queue.{eqb_swap, length_joins}

-- none was given a Clock yet
abbrev none_given : (moment : ℕ) (rows : Rows) (deadlines : Deadlines) (queue : List ℕ) → AreAgreed rows deadlines queue → Clocking moment rows queue rows deadlines queue 0
none_given moment rows deadlines queue k = record {
  due = [];
  in_order = λ i j d less within. absurd (omega (arith, within));
  are_due = All-nil (IsDueIn rows moment);
  added_is = refl;
  cleared = λ local e. absurd (false≢true e);
  rows_are = λ local. refl;
  ready_is = sym (append-nil queue);
  agreed = k;
  left = add-zero (sum_of (due_now moment) rows);
  turns = refl;
}

-- this number was given a Clock so far; each deadline that is left and comes after the last refused one comes after theirs
pub record Trying (last : Option Timer) (moment : ℕ) (old : Rows) (was : List ℕ) (rows : Rows) (deadlines : Deadlines) (queue : List ℕ) (added : ℕ) : Type 0 where
  pub so_far : Clocking moment old was rows deadlines queue added
  pub come_after : (local deadline : ℕ) → map.get deadlines local ≡ Some deadline → ComesAfter last (deadline, local) → All (λ d. ComesFirst d (deadline, local)) so_far.due

-- none was tried yet
pub begins : (moment : ℕ) (rows : Rows) (deadlines : Deadlines) (queue : List ℕ) → AreAgreed rows deadlines queue → Trying None moment rows queue rows deadlines queue 0
begins moment rows deadlines queue k = record {
  so_far = none_given moment rows deadlines queue k;
  come_after = λ local deadline e after. All-nil (λ d. ComesFirst d (deadline, local));
}

-- what comes after a deadline comes after those that come before it
after_both : (last : Option Timer) (timer : Timer) (d : Due) → ComesAfter last (timer.deadline, timer.local) → ComesAfter (Some timer) d → ComesAfter last d
after_both None timer d first then = tt
after_both (Some last) timer d (inl less) (inl later) = inl (omega arith)
after_both (Some last) timer d (inl less) (inr both) = inl (omega (arith, both.0))
after_both (Some last) timer d (inr same) (inl later) = inl (omega (arith, same.0))
after_both (Some last) timer d (inr same) (inr both) = inr (same.0 ∙ both.0, omega (arith, same.1, both.1))

-- memory ran out for one, and nothing changed
pub refused : (last : Option Timer) (timer : Timer) (moment : ℕ) (old : Rows) (was : List ℕ) (rows : Rows) (deadlines : Deadlines) (queue : List ℕ) (added : ℕ)
    (rows_then : Rows) (deadlines_then : Deadlines) (queue_then : List ℕ)
    → Trying last moment old was rows deadlines queue added → Stays rows deadlines queue rows_then deadlines_then queue_then × IsEarliestDueAfter deadlines last moment (Some timer)
    → Trying (Some timer) moment old was rows_then deadlines_then queue_then added
refused last timer moment old was rows deadlines queue added rows_then deadlines_then queue_then k g = rw (g.0.0, g.0.1, g.0.2) (record {
  so_far = k.so_far;
  come_after = λ local deadline e after. k.come_after local deadline e (after_both last timer (deadline, local) g.1.1 after);
})

-- no more are due than there are
pub due_most : (moment : ℕ) (rows : Rows) → map.len rows ≤ most_dialogues → sum_of (due_now moment) rows ≤ most_dialogues
due_most moment rows held = omega (arith, held, few_pass (λ row. is_due row moment) rows)

-- so no more are given a Clock
pub few_added : (moment : ℕ) (old : Rows) (was : List ℕ) (rows : Rows) (deadlines : Deadlines) (queue : List ℕ) (added : ℕ) → map.len old ≤ most_dialogues → Clocking moment old was rows deadlines queue added → added ≤ most_dialogues
few_added moment old was rows deadlines queue added held k = omega (arith, k.left, due_most moment old held)

-- if one has a deadline there is one
has_some : (m : Deadlines) (local deadline n : ℕ) → map.get m local ≡ Some deadline → map.len m ≡ n → 0 < map.len m
has_some m local deadline zero is none =
    let clash : None ≡ Some deadline = sym (map.get-empty nat_cmp local) ∙ ap (λ m. map.get m local) (sym (map.empty_of_len m none)) ∙ is in
    absurd (cc)
has_some m local deadline (suc n) is more = omega (arith, more)

-- the one that is given a Clock had a deadline, and has none then
pub fewer : (last : Option Timer) (moment : ℕ) (rows : Rows) (deadlines : Deadlines) (queue : List ℕ) (rows_then : Rows) (deadlines_then : Deadlines) (queue_then : List ℕ)
    → ClocksNext last moment rows deadlines queue rows_then deadlines_then queue_then → map.len deadlines_then < map.len deadlines
fewer last moment rows deadlines queue rows_then deadlines_then queue_then g =
    let less : map.len deadlines_then ≡ map.len deadlines - 1 =
    ap map.len g.deadlines_are ∙ map.len-remove nat_cmp_total deadlines g.timer.local ∙ ap (λ o. cond (is_some o) (map.len deadlines - 1) (map.len deadlines)) g.first.0 in
    omega (arith, less, has_some deadlines g.timer.local g.timer.deadline (map.len deadlines) g.first.0 refl)

-- a book with other entries, dialogues, queue and log
abbrev pub with_clocks : Shelf → ℕ → Rows → List ℕ → List LoggedStep → Shelf
with_clocks s entries rows queue log = record s { entries = entries; rows = rows; ready = queue; log = log }

abbrev logs : List LoggedStep → ℕ → ℕ → ℕ → List LoggedStep
logs list moment added wanting = cond (nat_eq (added + wanting) 0) list (logged list (line.Tick moment added wanting))

-- those that were given a Clock are those that a tick says
pub ticks : (s : Shelf) (moment added wanting : ℕ) (rows : Rows) (deadlines : Deadlines) (queue : List ℕ) (log : List LoggedStep) → is_full s ≡ false
    → Clocking moment s.rows s.ready rows deadlines queue added → wanting ≡ sum_of (due_now moment) rows → log ≡ logs s.log moment added wanting
    → Ticks s moment added wanting (with_clocks s (s.entries + added) rows queue log)
ticks s moment added wanting rows deadlines queue log room k left logged_is =
    let all : sum_of (λ row. cond {A = ℕ} (due_at s moment row) 1 0) s.rows ≡ sum_of (due_now moment) s.rows =
    ap (λ b. sum_of (λ row. cond {A = ℕ} (not b && is_due row moment) 1 0) s.rows) room in
    record {
      due = k.due;
      in_order = k.in_order;
      are_due = λ i d within.
          let one : IsDueIn s.rows moment (slice_index_or k.due i d) = k.are_due i d within in
          record { row = one.row; was = one.was; deadline = one.deadline; now = ap (λ b. not b && is_due one.row moment) room ∙ one.now };
      added_is = k.added_is;
      wanting_is = omega (arith, k.left, left, all);
      left = λ _. left;
      rows = k.rows_are;
      new_is =
          ap (λ xs. with_clocks s (s.entries + added) rows xs log) k.ready_is
          ∙ ap (λ xs. with_clocks s (s.entries + added) rows (s.ready ++ idle_among s.rows k.due) xs) logged_is;
    }

-- none is due on a link that accepted all its entries
pub none_ticks : (s : Shelf) (moment : ℕ) → is_full s ≡ true → Ticks s moment 0 0 s
none_ticks s moment full =
    let none : sum_of (λ row. cond {A = ℕ} (due_at s moment row) 1 0) s.rows ≡ 0 =
    ap (λ b. sum_of (λ row. cond {A = ℕ} (not b && is_due row moment) 1 0) s.rows) full ∙ sum-zero s.rows in
    record {
      due = [];
      in_order = λ i j d less within. absurd (omega (arith, within));
      are_due = All-nil (IsDue s moment);
      added_is = refl;
      wanting_is = sym none;
      left = λ e. absurd (false≢true (sym e ∙ full));
      rows = λ local. refl;
      new_is =
          ap (λ n. with_clocks s n s.rows s.ready s.log) (sym (add-zero s.entries))
          ∙ ap (λ xs. with_clocks s (s.entries + 0) s.rows xs s.log) (sym (append-nil s.ready));
    }

not_due : (moment : ℕ) (o : Option ℕ) → ((deadline : ℕ) → o ≡ Some deadline → moment < deadline) → cond {A = ℕ} (option_map_or (λ deadline. nat_le deadline moment) o false) 1 0 ≡ 0
not_due moment None later = refl
not_due moment (Some deadline) later = let after : moment < deadline = later deadline refl in grind (arith, nat_tests)

-- if no deadline is due no dialogue is
pub none_found : (moment : ℕ) (rows : Rows) (deadlines : Deadlines) → AreTimed deadlines rows → IsEarliestDue deadlines moment None → 0 ≡ sum_of (due_now moment) rows
none_found moment rows deadlines timed later =
    let each : (q : ℕ) (row : Row) → map.get rows q ≡ Some row → due_now moment row ≡ 0 = λ q row was. not_due moment (deadline_of row) (λ deadline is. later q deadline (timed q ∙ ap deadline_at was ∙ is) tt) in
    omega (arith, sums-le (due_now moment) zero_of zero_of zero_of rows rows (λ q none. none) (λ q row was. omega (arith, each q row was)), sum-zero rows)

-- a dialogue that was given a Clock has one
counted : (moment : ℕ) (before after : Row) → Extends before (clock moment) after → has_clock after ≡ true
counted moment before after g =
    let within : before.served ≤ length before.accepted = before.served_within in
    let path : unserved after ≡ unserved before ++ clock moment =
    ap (λ n. drop n after.accepted) g.stay.served
    ∙ ap (drop before.served) g.accepted
    ∙ drop-append-le before.served before.accepted (clock moment) within in
    let test : Entry → Bool = λ entry. is_clock entry.kind in
    let n : count_by test (unserved after) ≡ count_by test (unserved before) + 1 =
    ap (count_by test) path ∙ sum_by-append (λ (entry : Entry). cond {A = ℕ} (test entry) 1 0) (unserved before) (clock moment) in
    lt-ltb 0 (count_by test (unserved after)) (omega (arith, n))

no_deadline : (row : Row) (b : Bool) → has_clock row ≡ true → cond (b && not (has_clock row)) (Some (next_due row.core)) None ≡ None
no_deadline row true h = ap (λ t. cond (not t) (Some (next_due row.core)) None) h
no_deadline row false h = refl

-- so it has no deadline
cleared : (moment : ℕ) (before after : Row) → Extends before (clock moment) after → deadline_of after ≡ None
cleared moment before after g = no_deadline after (is_admitted after) (counted moment before after g)

-- among those that were given one before, and this one
among_more : (q : ℕ) (due : List Due) (d : Due) → is_among q (due ++ d ∷ []) ≡ (is_among q due || (eqb d.1 q || false))
among_more q due d = list_any-append (λ (e : Due). eqb e.1 q) due (d ∷ [])

among_here : (due : List Due) (d : Due) → is_among d.1 (due ++ d ∷ []) ≡ true
among_here due d = among_more d.1 due d ∙ ap (λ b. is_among d.1 due || (b || false)) (eq-eqb d.1 d.1 refl) ∙ or-true (is_among d.1 due)

among_other : (q : ℕ) (due : List Due) (d : Due) → eqb q d.1 ≡ false → is_among q (due ++ d ∷ []) ≡ is_among q due
among_other q due d ne = among_more q due d ∙ ap (λ b. is_among q due || (b || false)) (eqb_swap q d.1 ne) ∙ or-false (is_among q due)

idle_more : (rows : Rows) (due : List Due) (d : Due) → idle_among rows (due ++ d ∷ []) ≡ idle_among rows due ++ joins d.1 (is_idle (map.get rows d.1))
idle_more rows due d =
    let idle : ℕ → Bool = λ local. is_idle (map.get rows local) in
    ap (filter idle) (map-append (λ (e : Due). e.1) due (d ∷ []))
    ∙ filter-append idle (map (λ (e : Due). e.1) due) (d.1 ∷ [])
    ∙ ap (λ xs. idle_among rows due ++ xs) (sym (in_front d.1 (idle d.1) []) ∙ append-nil (joins d.1 (idle d.1)))

clocks_here : (moment : ℕ) (b : Bool) (o p : Option Row) (before after : Row) → b ≡ true → o ≡ Some before → p ≡ Some after → Extends before (clock moment) after → ClocksAt b moment o p
clocks_here moment b o p before after is was there g =
    subst (λ b. ClocksAt b moment o p) (sym is)
    (subst (λ o. ClocksAt true moment o p) (sym was) (subst (λ p. ClocksAt true moment (Some before) p) (sym there) g))

-- the others come after it
comes_first : (deadline later l q : ℕ) → eqb q l ≡ false → (deadline < later) ⊎ ((deadline ≡ later) × (l ≤ q)) → ComesFirst (deadline, l) (later, q)
comes_first deadline later l q ne by = ⊎_elim {C = ComesFirst (deadline, l) (later, q)} (λ less. inl less) (λ h. let le : l ≤ q = h.1 in inr (h.0, omega (arith, le, eqb-false q l ne))) by

-- so one dialogue more was given a Clock
pub one_more : (last : Option Timer) (moment : ℕ) (old : Rows) (was : List ℕ) (rows : Rows) (deadlines : Deadlines) (queue : List ℕ) (added : ℕ)
    (rows_then : Rows) (deadlines_then : Deadlines) (queue_then : List ℕ)
    → Trying last moment old was rows deadlines queue added → ClocksNext last moment rows deadlines queue rows_then deadlines_then queue_then
    → Trying last moment old was rows_then deadlines_then queue_then (added + 1)
one_more last moment old was rows deadlines queue added rows_then deadlines_then queue_then t g =
    let k = t.so_far in
    let l = g.timer.local in
    let before = g.clocked.before in
    let after = g.clocked.after in
    let deadline : ℕ = g.timer.deadline in
    let got : map.get deadlines l ≡ Some deadline = g.first.0 in
    let fresh : is_among l k.due ≡ false =
    false_from_ne_true (is_among l k.due) (λ is. let clash : None ≡ Some deadline = sym (k.cleared l is) ∙ got in absurd (cc)) in
    let stood : map.get old l ≡ Some before = sym (subst (λ b. ClocksAt b moment (map.get old l) (map.get rows l)) fresh (k.rows_are l)) ∙ g.clocked.was in
    let deadline_is : deadline_of before ≡ Some deadline = sym (ap deadline_at g.clocked.was) ∙ sym (k.agreed.timed l) ∙ got in
    let now : is_due before moment ≡ true = ap (λ o. option_map_or (λ t. nat_le t moment) o false) deadline_is ∙ le-leb deadline moment g.first.2 in
    let one : OneChanges rows rows_then l (Some before) (Some after) = subst (λ r. OneChanges rows r l (Some before) (Some after)) (sym g.clocked.rows) (inserted rows l (Some before) after g.clocked.was) in
    let d : Due = (deadline, l) in
    let none : map.get deadlines_then l ≡ None = ap (λ m. map.get m l) g.deadlines_are ∙ deadline-here deadlines l None in
    let same : (q : ℕ) → eqb q l ≡ false → map.get deadlines_then q ≡ map.get deadlines q = λ q ne. ap (λ m. map.get m q) g.deadlines_are ∙ deadline-other deadlines l None q ne in
    let gone : deadline_of after ≡ None = cleared moment before after g.clocked.extends in
    let joining : g.is_joining ≡ is_idle (map.get old l) = g.clocked.joins_is ∙ joins_is moment before after g.clocked.extends (has_deadline before deadline deadline_is) ∙ sym (ap is_idle stood) in
    let more : one_if (is_ready after) ≡ one_if (is_ready before) + one_if g.is_joining =
    sym (joined (is_ready before) (is_ready after) g.clocked.extends.ready_stays)
    ∙ ap (λ b. one_if (is_ready before) + one_if b) (sym g.clocked.joins_is) in
    let queued : length queue_then ≡ length queue + one_if g.is_joining = ap length g.ready_is ∙ length-append queue (joins l g.is_joining) ∙ ap (λ x. length queue + x) (length_joins l g.is_joining) in
    let due_before : due_now moment before ≡ 1 = ap (λ b. cond {A = ℕ} b 1 0) now in
    let due_after : due_now moment after ≡ 0 = ap (λ o. cond {A = ℕ} (option_map_or (λ t. nat_le t moment) o false) 1 0) gone in
    let out : turns_of after ≡ turns_of before = g.clocked.extends.out in
    record {
      so_far = record {
        due = k.due ++ d ∷ [];
        in_order = all_pairs_push ComesFirst k.due d k.in_order (t.come_after l deadline got g.first.1);
        are_due = All-push (IsDueIn old moment) k.due d k.are_due (record { row = before; was = stood; deadline = deadline_is; now = now });
        added_is = omega (arith, k.added_is, length-append k.due (d ∷ []));
        cleared = λ q.
            by_local q l (λ q. is_among q (k.due ++ d ∷ []) ≡ true → map.get deadlines_then q ≡ None)
            (λ e. none)
            (λ ne e. same q ne ∙ k.cleared q (sym (among_other q k.due d ne) ∙ e));
        rows_are = λ q.
            by_local q l (λ q. ClocksAt (is_among q (k.due ++ d ∷ [])) moment (map.get old q) (map.get rows_then q))
            (clocks_here moment (is_among l (k.due ++ d ∷ [])) (map.get old l) (map.get rows_then l) before after (among_here k.due d) stood one.there g.clocked.extends)
            (λ ne.
            subst (λ b. ClocksAt b moment (map.get old q) (map.get rows_then q)) (sym (among_other q k.due d ne))
            (subst (λ o. ClocksAt (is_among q k.due) moment (map.get old q) o) (sym (one.others q ne)) (k.rows_are q)));
        ready_is =
            g.ready_is
            ∙ ap (λ xs. xs ++ joins l g.is_joining) k.ready_is
            ∙ append_assoc was (idle_among old k.due) (joins l g.is_joining)
            ∙ ap (λ b. was ++ (idle_among old k.due ++ joins l b)) joining
            ∙ ap (λ xs. was ++ xs) (sym (idle_more old k.due d));
        agreed = record {
          timed = subst (λ m. AreTimed m rows_then) (sym g.deadlines_are) (timed_at deadlines rows rows_then l (Some before) (Some after) None k.agreed.timed one (sym gone));
          held = omega (arith, k.agreed.held, one.sums (λ _. 1), len-sum rows, len-sum rows_then);
          ready_length = omega (arith, k.agreed.ready_length, queued, more, one.sums ready);
        };
        left = omega (arith, k.left, due_before, due_after, one.sums (due_now moment));
        turns = omega (arith, k.turns, out, one.sums turns_of);
      };
      come_after = λ q later.
          by_local q l (λ q. map.get deadlines_then q ≡ Some later → ComesAfter last (later, q) → All (λ e. ComesFirst e (later, q)) (k.due ++ d ∷ []))
          (λ e then. absurd (let clash : None ≡ Some later = sym none ∙ e in cc))
          (λ ne e then.
          let there : map.get deadlines q ≡ Some later = sym (same q ne) ∙ e in
          All-push (λ e. ComesFirst e (later, q)) k.due d (t.come_after q later there then) (comes_first deadline later l q ne (g.first.3 q later there then)));
    }
