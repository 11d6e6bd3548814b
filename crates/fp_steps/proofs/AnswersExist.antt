-- Each step has an answer.
use Rattle.fp_steps.proofs.Names.{AnswersExist, Event, Handed, IsAnswer, IsNext, IsPicked, IsTaken, Lined, List, None, Option, Output, Prepared, QueuedFrame, Shelf, Some, Sound, Step, Tied, [], ap, aborts_waiting, base, cases_lt, count, gave, if_out, is_some, length, local_of, min, most_entries, most_places, named, out, places, positions, posted, put_back, refl, subst, sym, ticked, unserved, waiting, ℕ, ⊎_elim, ◌-◌, ◌<◌, ◌∷◌, ◌≡◌}
use Rattle.fp_steps.proofs.QueueInOrder.{InQueue, first_in, queued_at}
use Rattle.fp_steps.proofs.StepAnswers.{front_longest, none_ready}

-- TAKE

taken : {h : List Event} {s : Shelf} (ready : List ℕ) → Tied h s → Sound s → Lined h s → s.ready ≡ ready → (output : Output) × IsTaken h output
taken [] t k l is = (Output.Nothing, none_ready t k is)
taken {h} {s} (x ∷ rest) t k l is =
    let q : InQueue h s x = queued_at x t k (subst (λ ys. 0 < count x ys) (sym is) (first_in x rest)) in
    let d = q.row.birth in
    let position = length (positions h d) in
    let entries = min most_entries (min (length (unserved h d)) (most_places - places h)) in
    ⊎_elim
    (λ room. (
      Output.Took x position entries,
      (record { dialogue = d; name = q.held.name; stands = q.stands; longest = front_longest x d rest t k l is q.held.name; next = refl; count_is = refl }, room),
    ))
    (λ full. (Output.NoRoom, ((d, q.stands), full)))
    (cases_lt (places h) most_places)

-- PICK

next : (h : List Event) (aborts : List (List ℕ)) (frames : List QueuedFrame) → out h ≡ None → aborts_waiting h ≡ aborts → waiting h ≡ frames → (output : Output) × IsPicked h output
next h [] [] none a f = (Output.Nothing, (none, a, f))
next h (abort ∷ aborts) frames none a f = (Output.Picked 0 abort, (none, subst (λ xs. IsNext h xs (waiting h) 0 abort) (sym a) (refl, refl)))
next h [] (first ∷ frames) none a f =
    let local = local_of h first.dialogue in
    (Output.Picked local first.frame, (none, subst (λ xs. IsNext h xs (waiting h) local first.frame) (sym a) (subst (λ ys. IsNext h [] ys local first.frame) (sym f) (refl, refl))))

picked : (h : List Event) (o : Option Handed) → out h ≡ o → (output : Output) × IsPicked h output
picked h None is = next h (aborts_waiting h) (waiting h) is refl refl
picked h (Some handed) is = (Output.Busy, ap is_some is)

-- EACH STEP

answered : (base : ℕ) {h : List Event} {s : Shelf} (step : Step) (came : Option Prepared) → Tied h s → Sound s → Lined h s → (output : Output) × IsAnswer base h step came output
answered base {h} (Step.Post table frame moment) came t k l = (posted base h came, refl)
answered base {h} (Step.Lost frame moment) came t k l = (posted base h came, refl)
answered base {h} (Step.Tick moment) came t k l = (ticked h moment, refl)
answered base {h} {s} Step.Take came t k l = taken s.ready t k l refl
answered base {h} (Step.Give local) came t k l = (gave h local (named h local), refl)
answered base {h} (Step.PutBack local) came t k l = (put_back h (named h local), refl)
answered base {h} Step.Pick came t k l = picked h (out h) refl
answered base {h} Step.Sent came t k l = (if_out (out h) Output.Sent, refl)
answered base {h} Step.Unsent came t k l = (if_out (out h) Output.Unsent, refl)
answered base {h} Step.Down came t k l = (Output.Down, refl)

pub each_answered : AnswersExist
each_answered tables contexts h s step came leads sound = answered (base s) step came leads.tied sound leads.lined
