-- Each step keeps what waits in a book as its history tells: by cases.
use Rattle.fp_steps.proofs.Names.{Event, Lined, List, MakesOf, Option, Output, Prepared, Shelf, Sound, Step, Tied, [], arith, empty_shelf, frames, refl, subst, sym, verdict, verdict_tells, ℕ, ◌∷◌, ◌≡◌}
use Rattle.fp_steps.proofs.Cases.{Cases, by_made}
use Rattle.fp_steps.proofs.FramesInOrder.{filter_none}
use Rattle.fp_steps.proofs.HeldDialogues.{event}
use Rattle.fp_steps.proofs.WaitingAtMessages.{moves_posted}
use Rattle.fp_steps.proofs.WaitingAtSteps.{Lined-next, Moves, moves_back, moves_down, moves_gave, moves_picked, moves_sent, moves_took, same_moves}
use Rattle.fp_steps.proofs.WaitingAtTicks.{moves_ticked}

-- where the tie is kept, each step owes this
abbrev MovesIf : List Event → Option Prepared → Shelf → Shelf → Step → Output → Type 0
MovesIf h came old new step output = Tied (event step came output ∷ h) new → Moves h (event step came output) old new

moves : {h : List Event} (came : Option Prepared) {old new : Shelf} → Tied h old → Sound old → Lined h old → Sound new → Cases (MovesIf h came old new) came old new
moves {h} came {old} {new} t k l m =
    let none : (step : Step) → new ≡ old → MovesIf h came old new step Output.Nothing = λ step same u. same_moves (event step came Output.Nothing) new l same refl refl (λ d. refl) in
    record {
      posted = λ step posting p answer components is count g totals u.
          subst (λ c. Moves h (event step c (Output.Posted answer components)) old new) (sym is)
          (moves_posted step p answer components (verdict old p) l t k m (verdict_tells old p) g);
      none_posted = λ step posting empty same. none step same;
      ticked = λ moment added wanting zero g u. moves_ticked came t k u m l g;
      took = λ turn g u. moves_took _ came l g;
      no_room = λ some full same u. same_moves (event Step.Take came Output.NoRoom) new l same refl refl (λ d. refl);
      none_taken = λ empty same. none Step.Take same;
      gave = λ done given g u. moves_gave _ came l t k m g;
      none_given = λ local out same. none (Step.Give local) same;
      went_back = λ turn g u. moves_back _ came l m g;
      none_back = λ local out same. none (Step.PutBack local) same;
      picked = λ content frame is g u. moves_picked _ came _ frame l t g;
      busy = λ some same u. same_moves (event Step.Pick came Output.Busy) new l same refl refl (λ d. refl);
      none_picked = λ empty same. none Step.Pick same;
      sent = λ content g u. moves_sent _ came new content l g;
      none_sent = λ out same. none Step.Sent same;
      unsent = λ parcel g u. moves_down (event Step.Unsent came Output.Unsent) refl (filter_none _ (frames h) (λ a. refl)) (λ d. refl) l g.down;
      none_unsent = λ out same. none Step.Unsent same;
      down = λ g u. moves_down (event Step.Down came Output.Down) refl (filter_none _ (frames h) (λ a. refl)) (λ d. refl) l g;
    }

pub Lined-makes : {h : List Event} (e : Event) {old new : Shelf} → Tied h old → Sound old → Lined h old → MakesOf e.step e.came e.output old new
    → Tied (e ∷ h) new → Sound new → Lined (e ∷ h) new
Lined-makes e t k l g u m =
    Lined-next t k u m (by_made _ e.step e.output (moves e.came t k l m) g u)

pub Lined-none : (link tag : ℕ) → Lined [] (empty_shelf link tag)
Lined-none link tag = record { down = refl; frames = refl; few = λ d. omega arith; order = tt }
