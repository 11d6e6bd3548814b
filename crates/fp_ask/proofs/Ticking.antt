-- A moment comes to a book in which nothing waits.
use Rattle.std.proofs.Common.{◌≡◌, ℕ, suc, ◌<◌, ◌≤◌, ◌+◌, Bool, true, false, cond, eqb, not, ◌&&◌, nat_le, nat_lt, Option, Some, None, is_some, List, [], ◌∷◌, ◌++◌, length, map, count_by, refl, sym, ◌∙◌, ap, subst, arith, add-zero, append-nil, ⊎_elim, inr}
use Rattle.std.specs.Prelude.{AllPairs}
use Rattle.std.specs.FinMap as fin
use Rattle.std.specs.List.{AllByRecursion, filter, list_any}
use Rattle.std.specs.Option.{option_map_or}
use Rattle.std.proofs.lemmas.Bool.{cases_Bool, cond_both, false≢true, or_parts}
use Rattle.std.proofs.lemmas.List.{length-map, nil_from_length}
use Rattle.std.proofs.lemmas.List.Elements.{recursion_from_All}
use Rattle.fp_book.specs.Calls.{ClocksAt, ComesFirst, IsDue, Ticks, is_idle}
use Rattle.fp_book.specs.Calls as book
use Rattle.fp_book.specs.Outbox.{Outbox, nothing}
use Rattle.fp_book.specs.Rules as receipt
use Rattle.fp_book.specs.Limits.{most_dialogues}
use Rattle.fp_book.specs.Shelf.{Shelf, Sound, base}
use Rattle.fp_book.specs.Totals.{sum_of}
use Rattle.fp_book.proofs.Sums.{amount, len-sum, sum-le}
use Rattle.fp_entry.specs.declared.entry.Entry.{Entry}
use Rattle.fp_entry.specs.declared.entry.EntryKind.{EntryKind}
use Rattle.fp_entry.specs.Entries.{entry_at, is_clock}
use Rattle.fp_row.specs.declared.row.Row.{Row}
use Rattle.fp_row.specs.Row.{deadline_of, has_clock, is_due}
use Rattle.fp_service.specs.Dialogue.{is_over, next_due}
use Rattle.fp_tids.specs.Identifiers.{serial_of}
use Rattle.fp_ask.specs.Solo.{Due, Job, accepted, Dialogue, LinkState, clocks, due_at, found, is_full, jobs_for, serve_all, tick}
use Rattle.fp_ask.specs.Tied.{Matches, Rest, dialogue_of, is_out, live}
use Rattle.fp_ask.specs.proof_only.Serving.{Came, Concerned, Concerns, Fit, Midway, Singles, all_free, frames_in, is_leaving, jobs_in, jobs_of, senders, waiting_at}
use Rattle.fp_ask.proofs.Counting.{sum_zero_at}
use Rattle.fp_ask.proofs.DueOrder.{Above, Ascends, Each, InOrder, all_are, in_order, keyed, locals, same_list}
use Rattle.fp_ask.proofs.Resting.{Quiet, full_test, not_leaving, quiet, stands_nowhere}
use Rattle.fp_ask.proofs.Rows.{live_stays}
use Rattle.fp_ask.proofs.Dialogues.{count, count-cons, once_served, unit, unit_most}

-- the entry of a Clock
abbrev clock : ℕ → Entry
clock moment = entry_at moment EntryKind.Clock

-- its deadline is that of its core
quiet_deadline : (row : Row) → Quiet row → deadline_of row ≡ Some (next_due row.core)
quiet_deadline row q =
    let none : has_clock row ≡ false = ap (λ u. nat_lt 0 (count_by (λ (entry : Entry). is_clock entry.kind) u)) q.unserved in
    λ i. cond (q.admitted i && not (none i)) (Some (next_due row.core)) None

-- what a Clock makes of a dialogue
record AtTick (moment : ℕ) (b : Bool) (o left : Option Row) : Type 0 where
  pub out : is_out left ≡ false
  pub lives : live left ≡ live o
  pub stays : is_leaving left ≡ is_leaving o
  pub waits : b ≡ true → waiting_at left ≡ clock moment ∷ []

-- one that is due gets a Clock, and any other is unchanged
at_tick : (moment : ℕ) (b : Bool) (o left : Option Row) → is_out o ≡ false → ((row : Row) → o ≡ Some row → Quiet row) → ClocksAt b moment o left → AtTick moment b o left
at_tick moment false o left idle q g = record { out = ap is_out g ∙ idle; lives = ap live g; stays = ap is_leaving g; waits = λ e. absurd (false≢true e) }
at_tick moment true (Some before) (Some after) idle q g =
    let own = q before refl in
    record {
      out = ap (nat_lt 0) g.out ∙ idle;
      lives = live_stays before after g.same g.ended g.stay.core;
      stays = λ i. not (not (is_some (g.ended i)) && not (is_over (g.stay.core i)));
      waits = λ e. g.waiting own.admitted ∙ ap (λ w. w ++ clock moment ∷ []) own.waiting;
    }
at_tick moment true o None idle q g = absurd g
at_tick moment true None (Some after) idle q g = absurd g

-- what is not among the due dialogues is counted nowhere in them
none_any : (k : ℕ) (dues : List book.Due) → list_any (λ (d : book.Due). eqb d.1 k) dues ≡ false → count k (map (λ (d : book.Due). d.1) dues) ≡ 0
none_any k [] e = refl
none_any k (d ∷ dues) e =
    let parts = or_parts (eqb d.1 k) (list_any (λ (d : book.Due). eqb d.1 k) dues) e in
    omega (arith, count-cons k d.1 (map (λ (d : book.Due). d.1) dues), ap unit parts.0, none_any k dues parts.1)

-- a Clock for each of these
abbrev clock_jobs : ℕ → List ℕ → List Job
clock_jobs moment xs = map (λ (x : ℕ). record { local = x; entry = clock moment }) xs

-- a test holds of one dialogue at most
unit_amount : (test : Row → Bool) (o : Option Row) → amount (λ (row : Row). unit (test row)) o ≤ 1
unit_amount test None = omega arith
unit_amount test (Some row) = unit_most (test row)

-- as the list gives them
jobs_of_dues : (moment : ℕ) (dues : List Due) → clock_jobs moment (locals dues) ≡ clocks moment dues
jobs_of_dues moment [] = refl
jobs_of_dues moment (due ∷ dues) = ap (λ j. record { local = due.local; entry = clock moment } ∷ j) (jobs_of_dues moment dues)

module _ {s new : Shelf} {moment added wanting : ℕ} (r : Rest s) (t : Ticks s moment added wanting new) (none : wanting ≤ 0) where
  abbrev key : ℕ → ℕ
  key k = amount (λ (row : Row). next_due row.core) (fin.get s.rows k)

  abbrev weight : Row → ℕ
  weight row = unit (book.due_at s moment row)

  abbrev dues : List ℕ
  dues = map (λ (d : book.Due). d.1) t.due

  -- what is known of a dialogue that is due
  key_is : (d : book.Due) → IsDue s moment d → d.0 ≡ key d.1
  key_is d g =
      let same : Some d.0 ≡ Some (next_due g.row.core) = sym g.deadline ∙ quiet_deadline g.row (quiet s r d.1 g.row g.was) in
      let deadline : d.0 ≡ next_due g.row.core = cc in
      deadline ∙ sym (ap (amount (λ (row : Row). next_due row.core)) g.was)

  -- the due dialogues are in order
  above_of : (d : book.Due) (es : List book.Due) → IsDue s moment d → AllByRecursion (IsDue s moment) es → AllByRecursion (ComesFirst d) es → Above key d.1 (map (λ (d : book.Due). d.1) es)
  above_of d [] g are first = tt
  above_of d (e ∷ es) g are first = (
    keyed key d.1 e.1 d.0 e.0 (key_is d g) (key_is e are.0)
        (⊎_elim {C = (d.0 ≤ e.0) × (d.0 ≡ e.0 → d.1 < e.1)} (λ (less : d.0 < e.0). (omega (arith, less), λ same. absurd (omega (arith, less, same)))) (λ h. (omega (arith, h.0), λ same. h.1)) first.0),
    above_of d es g are.1 first.1,
  )

  ascends_of : (ds : List book.Due) → AllByRecursion (IsDue s moment) ds → AllPairs ComesFirst ds → Ascends key (map (λ (d : book.Due). d.1) ds)
  ascends_of [] are order = tt
  ascends_of (d ∷ ds) are order = (
    above_of d ds are.0 are.1 (recursion_from_All (λ (e : book.Due). ComesFirst d e) ds (λ k x within. order 0 (suc k) x (omega arith) (omega (arith, within)))),
    ascends_of ds are.1 (λ i j x less within. order (suc i) (suc j) x (omega (arith, less)) (omega (arith, within))),
  )

  -- each of them is due and idle
  each_of : (ds : List book.Due) → AllByRecursion (IsDue s moment) ds
      → Each weight s.rows (map (λ (d : book.Due). d.1) ds) × (filter (λ local. is_idle (fin.get s.rows local)) (map (λ (d : book.Due). d.1) ds) ≡ map (λ (d : book.Due). d.1) ds)
  each_of [] are = (tt, refl)
  each_of (d ∷ ds) are =
      let q = quiet s r d.1 are.0.row are.0.was in
      let rest = each_of ds are.1 in
      let idle : is_idle (fin.get s.rows d.1) ≡ true = ap is_idle are.0.was ∙ (λ i. not (q.is_out i) && not (q.unready i)) in
      ((ap (amount weight) are.0.was ∙ ap unit are.0.now, rest.0), λ i. cond (idle i) (d.1 ∷ rest.1 i) (rest.1 i))

  are : AllByRecursion (IsDue s moment) t.due
  are = recursion_from_All (IsDue s moment) t.due t.are_due

  ascends : Ascends key dues
  ascends = ascends_of t.due are t.in_order

  as_many : length dues ≡ sum_of weight s.rows
  as_many = omega (arith, length-map t.due (λ (d : book.Due). d.1), t.added_is, t.wanting_is, none)

  -- they are all that are due
  counts : (k : ℕ) → count k dues ≡ amount weight (fin.get s.rows k)
  counts = all_are key weight dues s.rows ascends (each_of t.due are).0 as_many

  -- what the tick makes of each dialogue
  at : (k : ℕ) → AtTick moment (list_any (λ (d : book.Due). eqb d.1 k) t.due) (fin.get s.rows k) (fin.get new.rows k)
  at k = at_tick moment (list_any (λ (d : book.Due). eqb d.1 k) t.due) (fin.get s.rows k) (fin.get new.rows k) (r.idle k) (λ row was. quiet s r k row was) (t.rows k)

  -- each of them has a Clock alone
  clocked : (xs : List ℕ) → Each weight s.rows xs → (jobs_in xs new.rows ≡ clock_jobs moment xs) × Singles xs new.rows
  clocked [] e = (refl, tt)
  clocked (x ∷ xs) e =
      let rest = clocked xs e.1 in
      let own = (at x).waits (⊎_elim (λ e. e) (λ no. absurd (omega (arith, none_any x t.due no, counts x, e.0))) (cases_Bool (list_any (λ (d : book.Due). eqb d.1 x) t.due))) in
      (λ i. jobs_for x (own i) ++ rest.0 i, (ap length own, rest.1))

  -- they are ready, in this order,
  ready_is : new.ready ≡ dues
  ready_is = ap (λ (x : Shelf). x.ready) t.new_is ∙ ap (λ q. q ++ filter (λ local. is_idle (fin.get s.rows local)) dues) r.ready ∙ (each_of t.due are).1

  -- each with its Clock
  jobs_are : jobs_of new ≡ clock_jobs moment dues
  jobs_are = ap (λ q. jobs_in q new.rows) ready_is ∙ (clocked dues (each_of t.due are).0).0

  outbox_is : new.outbox ≡ nothing
  outbox_is = ap (λ (x : Shelf). x.outbox) t.new_is ∙ r.outbox

  -- they are as many as are held at most
  few : length dues ≤ most_dialogues
  few = omega (arith, as_many, sum-le weight (λ _. 1) s.rows (λ row. unit_most (book.due_at s moment row)), len-sum s.rows, r.sound.held)

  pub ticks_fit : Sound new → Fit new
  ticks_fit sound = record {
    sound = sound;
    link = ap (λ (x : Shelf). x.link) t.new_is ∙ r.link;
    up = ap (λ (x : Shelf). x.is_down) t.new_is ∙ r.up;
    idle = λ k. (at k).out;
    none_out = ap (λ (o : Outbox). o.out) outbox_is;
    orderly = inr (subst (λ q. Singles q new.rows) (sym ready_is) (clocked dues (each_of t.due are).0).1);
    room = omega (arith, ap (λ (o : Outbox). length o.frames) outbox_is, ap length jobs_are, length-map {B = Job} dues (λ (x : ℕ). record { local = x; entry = clock moment }), few);
  }

  -- each that is ready has its Clock, and no frame waits
  concerns : Concerns Concerned.due new
  concerns = (
    λ k ready. (
      (at k).stays ∙ not_leaving s r k,
      (
        moment,
        (at k).waits (⊎_elim (λ e. e) (λ no. absurd (omega (arith, ready, ap (count k) ready_is, none_any k t.due no))) (cases_Bool (list_any (λ (d : book.Due). eqb d.1 k) t.due))),
      ),
    ),
    λ k. omega (arith, ap (λ o. count k (senders o)) outbox_is, ap (count k) ready_is, counts k, unit_amount (book.due_at s moment) (fin.get s.rows k)),
  )

  free_is : all_free Concerned.due new ≡ s.free
  free_is =
      (λ i. (t.new_is i).free ++ map serial_of (filter (λ k. is_leaving (fin.get new.rows k)) (senders (outbox_is i))))
      ∙ append-nil s.free

  entries_are : new.entries ≡ s.entries + length dues
  entries_are = ap (λ (x : Shelf). x.entries) t.new_is ∙ ap (λ n. s.entries + n) (t.added_is ∙ sym (length-map t.due (λ (d : book.Due). d.1)))

  module _ (w : LinkState) (m : Matches w s) where
    -- the dialogues that were due, each with a Clock
    midway_of : (jobs : List Job) (entries : ℕ) → jobs_of new ≡ jobs → Midway new (accepted w entries (serve_all jobs w.dialogues))
    midway_of jobs entries e = record {
      dialogues = w.dialogues;
      same = λ k. m.same k ∙ sym (at k).lives;
      dialogues_end = ap (λ j. (serve_all j w.dialogues).dialogues) e;
      frames_end = λ i. frames_in (outbox_is i) ++ (serve_all (e i) w.dialogues).frames;
      who = Concerned.due;
      concerns = concerns;
      free_end = λ i. (free_is ∙ sym m.free) i ++ (serve_all (e i) w.dialogues).returned;
    }

    -- the list has a dialogue as the book has it
    found_is : (k : ℕ) (row : Row) → fin.get s.rows k ≡ Some row → found k w.dialogues ≡ Some (dialogue_of row)
    found_is k row was = m.same k ∙ ap live was ∙ ap (λ b. cond b (Some (dialogue_of row)) None) (quiet s r k row was).admitted

    -- the deadline of a dialogue of the list
    key_of : (k : ℕ) (dialogue : Dialogue) (o : Option Row) → fin.get s.rows k ≡ o → found k w.dialogues ≡ Some dialogue → next_due dialogue.core ≡ amount (λ (row : Row). next_due row.core) o
    key_of k dialogue None was at = absurd (let clash : None ≡ Some dialogue = sym (m.same k ∙ ap live was) ∙ at in cc)
    key_of k dialogue (Some row) was at =
        let same : Some dialogue ≡ Some (dialogue_of row) = sym at ∙ found_is k row was in
        let one : dialogue ≡ dialogue_of row = cc in
        ap (λ (u : Dialogue). next_due u.core) one

    -- the due dialogues of the list
    order : InOrder key moment w.dialogues (due_at moment w.dialogues)
    order = in_order key moment w.dialogues m.once (λ k dialogue at. key_of k dialogue (fin.get s.rows k) refl at)

    -- the list has the same dialogues that are due
    count_is : receipt.is_full s ≡ false → (k : ℕ) (o : Option Row) → fin.get s.rows k ≡ o → count k (locals (due_at moment w.dialogues)) ≡ amount weight o
    count_is full k None was = omega (arith, order.few k, stands_nowhere k w.dialogues (m.same k ∙ ap live was))
    count_is full k (Some row) was =
        let due : is_due row moment ≡ nat_le (next_due row.core) moment =
        ap (λ o. option_map_or (λ deadline. nat_le deadline moment) o false) (quiet_deadline row (quiet s r k row was)) in
        order.counts k (dialogue_of row) (found_is k row was) ∙ sym (λ i. unit (not (full i) && due i))

    -- so the list goes on as the book does
    pub ticks_came : Came (tick w moment) new
    ticks_came = cond_both (is_full w) _ _ (λ p. Came p new)
        (λ e.
        let full = sym (full_test s w m) ∙ e in
        let none : dues ≡ [] = nil_from_length dues (as_many ∙ sum_zero_at weight s.rows (λ k row was. ap (λ b. unit (not b && is_due row moment)) full)) in
        record {
          midway = subst (λ f. Midway new (record { link = record w { free = f }; frames = [] })) (append-nil w.free)
              (subst (λ n. Midway new (record { link = record w { entries = n; free = w.free ++ [] }; frames = [] })) (add-zero w.entries) (midway_of [] 0 (jobs_are ∙ ap (clock_jobs moment) none)));
          bases = m.bases ∙ sym (ap base t.new_is);
          births = m.births ∙ sym (ap (λ (x : Shelf). x.births) t.new_is);
          entries = omega (arith, m.entries, entries_are, ap length none);
          once = m.once;
        })
        (λ e.
        let due = due_at moment w.dialogues in
        let same : locals due ≡ dues =
        same_list key (locals due) dues order.ascends ascends (λ k. count_is (sym (full_test s w m) ∙ e) k (fin.get s.rows k) refl ∙ sym (counts k)) in
        record {
          midway = midway_of (clocks moment due) (length due) (jobs_are ∙ ap (clock_jobs moment) (sym same) ∙ jobs_of_dues moment due);
          bases = m.bases ∙ sym (ap base t.new_is);
          births = m.births ∙ sym (ap (λ (x : Shelf). x.births) t.new_is);
          entries = omega (arith, m.entries, entries_are, ap length same, length-map due (λ (d : Due). d.local));
          once = once_served (clocks moment due) w.dialogues m.once;
        })
