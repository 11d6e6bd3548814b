-- A tick keeps what waits in a book as its history tells: those that become ready stand in the order of their
-- deadlines.
use Rattle.fp_steps.proofs.Names.{All, All-map, AllPairs, Bool, ByAge, ClocksAt, ComesFirst, Core, Due, Event, IsDue, IsReadyBefore, Lined, List, None, Option, Output, Prepared, Row, Shelf, Some, Sorted, Sound, Step, Ticks, Tied, [], ap, arith, cond, cond_some, count, count-append, due_of, false, filter, get, has_clock, inr, is_admitted, is_idle, local_of, map_list, named, nat_lt, next_due, not, ready_for, recursion_from_All, refl, same_Some, subst, suc, sym, true, ℕ, ◌&&◌, ◌++◌, ◌<◌, ◌∙◌, ◌∷◌, ◌≡◌}
use Rattle.fp_steps.proofs.HeldDialogues.{Held, core_tied, event, held_of}
use Rattle.fp_steps.proofs.QueueInOrder.{InQueue, Joins, Same, aged, anew_by, cores_ticked, due_by, newly, queued_at, same_dialogue, sorted_filter, sorted_same}
use Rattle.fp_steps.proofs.TieAtTicks.{among}
use Rattle.fp_steps.proofs.WaitingAtSteps.{Moves, moves_to}
use Rattle.fp_row.specs.Row.{has_turn_out}

-- the identifiers of those that are due
abbrev locals_of : List Due → List ℕ
locals_of due = map_list (λ (d : Due). d.1) due

-- the order of deadlines, and of identifiers among equal ones
abbrev ByDeadline : List Event → ℕ → ℕ → Type 0
ByDeadline h x y = (c d : ℕ) → named h x ≡ Some c → named h y ≡ Some d → ComesFirst (due_of h c) (due_of h d)

deadline_by : (b : Bool) (n m : ℕ) → cond b (Some n) None ≡ Some m → n ≡ m
deadline_by b n m e = (cond_some b n m e).1

-- what is due next of a dialogue is its deadline
due_next : {h : List Event} {s : Shelf} {moment : ℕ} {d : Due} → Tied h s → (g : IsDue s moment d) → (named h d.1 ≡ Some g.row.birth) × (due_of h g.row.birth ≡ d)
due_next {h} {d} t g =
    let b = g.row.birth in let held : Held h d.1 b g.row = held_of d.1 g.row t g.was in (
      held.name,
      ap (λ (x : Core). due_by (next_due x) (local_of h b)) (core_tied held.tied)
          ∙ ap (λ n. due_by n (local_of h b)) (deadline_by (is_admitted g.row && not (has_clock g.row)) (next_due g.row.core) d.0 g.deadline) ∙ ap (due_by d.0) (sym held.place),
    )

two_due : {h : List Event} {s : Shelf} {moment : ℕ} {d e : Due} → Tied h s → IsDue s moment d → IsDue s moment e → ComesFirst d e → ByDeadline h d.1 e.1
two_due {h} {d} {e} t a b first =
    let x = due_next t a in let y = due_next t b in
    aged (λ c f. ComesFirst (due_of h c) (due_of h f)) h d.1 e.1 a.row.birth b.row.birth x.0 y.0
    (subst (λ (p : Due). ComesFirst p (due_of h b.row.birth)) (sym x.1) (subst (λ (p : Due). ComesFirst d p) (sym y.1) first))

due_sorted : (h : List Event) (s : Shelf) (moment : ℕ) (due : List Due) → Tied h s → AllPairs ComesFirst due → All (IsDue s moment) due → Sorted (ByDeadline h) (locals_of due)
due_sorted h s moment [] t order are = tt
due_sorted h s moment (d ∷ due) t order are = (
  recursion_from_All (ByDeadline h d.1) (locals_of due)
      (All-map (ByDeadline h d.1) (λ (e : Due). e.1) due (λ i x within.
      two_due t (are 0 x (omega arith)) (are (suc i) x (omega (arith, within))) (order 0 (suc i) x (omega arith) (omega (arith, within))))),
  due_sorted h s moment due t (λ i j x less within. order (suc i) (suc j) x (omega (arith, less)) (omega (arith, within))) (λ i x within. are (suc i) x (omega (arith, within))),
)

clocked_before : (x : Bool) (moment : ℕ) (o : Option Row) (after : Row) → ClocksAt x moment o (Some after) → (before : Row) × (o ≡ Some before) × (has_turn_out after ≡ has_turn_out before)
clocked_before false moment o after c = (after, sym c, refl)
clocked_before true moment None after c = absurd c
clocked_before true moment (Some before) after c = (before, refl, ap (nat_lt 0) c.out)

-- those that join the queue have become ready at the same tick
joins_ticked : {h : List Event} (e : Event) {old new : Shelf} {moment added wanting : ℕ} → Tied h old → Sound old → Tied (e ∷ h) new → Sound new → Lined h old → Ticks old moment added wanting new → Joins h e old new
joins_ticked {h} e {old} {new} {moment} t k u m l g =
    let join : List ℕ = filter (λ local. is_idle (get old.rows local)) (locals_of g.due) in
    let shape : new.ready ≡ old.ready ++ join = ap (λ (s : Shelf). s.ready) g.new_is in
    let in_new : (y : ℕ) → 0 < count y join → 0 < count y new.ready = λ y c. omega (arith, ap (count y) shape, count-append y old.ready join, c) in
    let anew = anew_by old join m shape in
    let now : (y : ℕ) → 0 < count y join → InQueue (e ∷ h) new y = λ y c. queued_at y u m (in_new y c) in
    let still : (y : ℕ) → 0 < count y join → Same h e y = λ y c. let q = now y c in
    let before = clocked_before (among y g.due) moment (get old.rows y) q.row (subst (ClocksAt (among y g.due) moment (get old.rows y)) q.was (g.rows y)) in
    same_dialogue e y before.0 t u m (cores_ticked g) before.1 (sym before.2 ∙ q.free) (in_new y c)
    in
    let one : (y : ℕ) (c : 0 < count y join) → ready_for (e ∷ h) (still y c).birth ≡ 1 = λ y c.
    let q = now y c in
    (still y c).goes ∙ ap suc (subst (λ b. ready_for h b ≡ 0) (same_Some q.row.birth (still y c).birth (sym q.held.name ∙ (still y c).is)) (newly e t k (anew y c) q))
    in
    record {
      stay = old.ready;
      join = join;
      ready_is = shape;
      stayed = λ y c. c;
      order = l.order;
      anew = anew;
      joined = sorted_same (ByDeadline h) (ByAge (e ∷ h)) join
          (λ x y cx cy first.
          let a = still x cx in let b = still y cy in
          aged (IsReadyBefore (e ∷ h)) (e ∷ h) x y a.birth b.birth a.is b.is (inr (
            one x cx ∙ sym (one y cy),
            subst (λ (z : Due). ComesFirst z (due_of (e ∷ h) b.birth)) (sym a.due) (subst (λ (z : Due). ComesFirst (due_of h a.birth) z) (sym b.due) (first a.birth b.birth a.was b.was)),
          )))
          (sorted_filter (ByDeadline h) (λ local. is_idle (get old.rows local)) (locals_of g.due) (due_sorted _ _ moment g.due t g.in_order g.are_due));
      cores = cores_ticked g;
    }

pub moves_ticked : {h : List Event} (came : Option Prepared) {old new : Shelf} {moment added wanting : ℕ} → Tied h old → Sound old → Tied (event (Step.Tick moment) came (Output.Ticked added wanting) ∷ h) new → Sound new → Lined h old
    → Ticks old moment added wanting new → Moves h (event (Step.Tick moment) came (Output.Ticked added wanting)) old new
moves_ticked came {moment} {added} {wanting} t k u m l g = moves_to l refl (λ d. refl) (ap (λ (s : Shelf). s.is_down) g.new_is)
    (l.frames ∙ sym (ap (λ (s : Shelf). s.outbox.frames) g.new_is))
    (joins_ticked (event (Step.Tick moment) came (Output.Ticked added wanting)) t k u m l g)
