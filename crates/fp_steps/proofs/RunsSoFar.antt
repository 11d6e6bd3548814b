-- A step after a history that leads to the book, and a run so far.
use Rattle.fp_steps.proofs.Names.{AddUp, AllAnswered, AtEachMoment, Contents, Event, FollowsHistory as Follows, Freed, Headline, HeadlineHolds, HistoryTells as Tells, IdentifiersHold, IdleIsDone, IsAfter, IsAnswer, IsCame, LeadsTo, Lined, List, LoggedStep, LogsRun, MakesOf, MakesStep, None, Option, Output, Prepared, Retells, RowsKeepTheirOrder, Runs, Shelf, Some, Sound, Step, Tied, [], ap, base, cond_some, empty_shelf, is_written, length, lines_told, logged, map_list as map, option_to_list, outputs_of, refl, reverse_onto, rules, slice_index_or, subst, sym, take, take_more, told, told_from, totals_of, written, ℕ, ◌++◌, ◌+◌, ◌<◌, ◌∙◌, ◌∷◌, ◌≡◌}
use Rattle.fp_steps.specs.declared.stepped.Stepped.{Stepped}
use Rattle.fp_steps.proofs.DialogueTotals.{add_up_next, none_few}
use Rattle.fp_steps.proofs.IdleDone.{idle_is_done, idle_none}
use Rattle.fp_steps.proofs.BookLog.{line_is}
use Rattle.fp_steps.proofs.FreeSerials.{Freed-makes, identifiers_hold}
use Rattle.fp_steps.proofs.LoggedLines.{line_step, unwritten_is}
use Rattle.fp_steps.proofs.OutputTotals.{outputs_more}
use Rattle.fp_steps.proofs.StepAnswers.{SameMarks, answer_made, base_made, marks_made}
use Rattle.fp_steps.proofs.TieKept.{Tied-makes, Tied-none, headline, headline_none}
use Rattle.fp_steps.proofs.WaitingKept.{Lined-makes, Lined-none}

-- what holds at each moment holds at the last
pub at_the_end : (h : List Event) → AtEachMoment Headline h → Headline h
at_the_end [] k = k
at_the_end (e ∷ h) k = k.0

-- a step after a history that leads to the book
record Next (tables : List Contents) (contexts : List (List ℕ)) (h : List Event) (step : Step) (came : Option Prepared) (output : Output) (old new : Shelf) : Type 0 where
  answer : IsAnswer (base new) h step came output
  line_is : told_from new.log step output ≡ told h step output
  leads : LeadsTo tables contexts (record { step = step; came = came; output = output } ∷ h) new

-- all that is known of a step
record Made (tables : List Contents) (contexts : List (List ℕ)) (step : Step) (came : Option Prepared) (output : Output) (old new : Shelf) : Type 0 where
  sound : Sound old
  empty : old.log ≡ []
  then : Sound new
  is_came : IsCame tables contexts step came
  makes : MakesOf step came output old new

next : RowsKeepTheirOrder → {tables : List Contents} {contexts : List (List ℕ)} {step : Step} {came : Option Prepared} {output : Output} {old new : Shelf} → Made tables contexts step came output old new
    → {h : List Event} → LeadsTo tables contexts h old → Next tables contexts h step came output old new
next law {tables} {contexts} {step} {came} {output} {old} {new} m {h} f =
    let e : Event = record { step = step; came = came; output = output } in
    let tied : Tied (e ∷ h) new = Tied-makes law e new f.tied m.sound m.makes in
    let same : base new ≡ base old = base_made step came output new m.sound m.makes in
    let answer : IsAnswer (base new) h step came output =
    subst (λ n. IsAnswer n h step came output) (sym same) (answer_made law step came output new f.tied m.sound f.lined f.freed m.makes)
    in
    let lined : Lined (e ∷ h) new = Lined-makes e f.tied m.sound f.lined m.makes tied m.then in
    let freed : Freed (e ∷ h) new =
    Freed-makes law e new (record { tied = f.tied; sound = m.sound; lined = f.lined }) f.freed m.makes (record { tied = tied; sound = m.then; lined = lined })
    in
    let first : Headline (e ∷ h) = headline law _ _ tied m.then lined in
    let own : IdentifiersHold (e ∷ h) = identifiers_hold law (record { tied = tied; sound = m.then; lined = lined }) freed in
    let sums : AddUp (outputs_of (e ∷ h)) (e ∷ h) × (new.totals ≡ totals_of (outputs_of (e ∷ h))) =
    add_up_next law e f.tied m.sound m.makes m.then (at_the_end h f.moments) first f.adds_up f.counted
    in
    let is : told_from new.log step output ≡ told h step output = line_is tables contexts step came output new f.tied m.sound m.empty m.is_came m.makes in
    let answers : AllAnswered (base new) h = subst (λ n. AllAnswered n h) (sym same) f.answers in
    let idle : IdleIsDone (e ∷ h) = idle_is_done law tied lined m.then first in search rules

-- WHAT IS RETOLD

-- a history that retells the lines of a log, and leads to the book
record Retelling (tables : List Contents) (contexts : List (List ℕ)) (lines : List LoggedStep) (book : Shelf) : Type 0 where
  retold : List Event
  leads : LeadsTo tables contexts retold book
  retells : Retells tables contexts (base book) lines retold

the_written : (o : Option LoggedStep) (line : LoggedStep) → written o ≡ Some line → o ≡ Some line
the_written None line e = absurd (cc)
the_written (Some step) line e = ap Some (cond_some (is_written step) step line e).1

-- with the line of one step more, if it is written
retold_by : RowsKeepTheirOrder → {tables : List Contents} {contexts : List (List ℕ)} {step : Step} {came : Option Prepared} {output : Output} {old new : Shelf} → Made tables contexts step came output old new
    → (lines : List LoggedStep) (o : Option LoggedStep) → Retelling tables contexts lines old → written (told_from new.log step output) ≡ o → Retelling tables contexts (option_to_list o ++ lines) new
retold_by law {tables} {contexts} {step} {came} {output} {old} {new} m lines None k is = subst (Retelling tables contexts lines) (sym (unwritten_is step came output old new m.makes m.empty is)) k
retold_by law {tables} {contexts} {step} {came} {output} {old} {new} m lines (Some line) k is =
    let n : Next tables contexts k.retold step came output old new = next law m k.leads in
    let tells : told k.retold step output ≡ Some line = sym n.line_is ∙ the_written (told_from new.log step output) line is in
    record {
      retold = record { step = step; came = came; output = output } ∷ k.retold;
      leads = n.leads;
      retells = (
        record { step = line_step step came output new k.leads.tied m.makes line tells; came = m.is_came; answer = n.answer; tells = tells },
        subst (λ n. Retells tables contexts n lines k.retold) (sym (base_made step came output new m.sound m.makes)) k.retells,
      );
    }

-- EACH STEP

-- a history that leads to a book leads to it whatever is in its log
emptied : (tables : List Contents) (contexts : List (List ℕ)) (h : List Event) (s : Shelf) (log : List LoggedStep) → IsAfter tables contexts h s → IsAfter tables contexts h (record s { log = log })
emptied tables contexts h s log f =
    let of : (g : List Event) → LeadsTo tables contexts g s → LeadsTo tables contexts g (record s { log = log }) = λ g k. search rules in
    record { leads = of h f.leads; retold = f.retold; retold_leads = of f.retold f.retold_leads; retells = f.retells }

-- a step follows the history, and then its line is dropped
pub followed : RowsKeepTheirOrder → {tables : List Contents} {contexts : List (List ℕ)} (step : Step) (made : Stepped) {old mid : Shelf} (new : Shelf) → Sound old → old.log ≡ [] → Sound mid → MakesStep tables contexts old step made.output mid
    → made.line ≡ told_from mid.log step made.output → new ≡ record mid { log = new.log } → {h : List Event} → IsAfter tables contexts h old → Follows tables contexts h step made new
followed law {tables} {contexts} step made {old} {mid} new sound empty then (came, is, makes) line dropped {h} f =
    let m : Made tables contexts step came made.output old mid = record { sound = sound; empty = empty; then = then; is_came = is; makes = makes } in
    let n : Next tables contexts h step came made.output old mid = next law m f.leads in
    let r : Retelling tables contexts (option_to_list (logged h step made.output) ++ lines_told h) mid =
    retold_by law m (lines_told h) (logged h step made.output) (record { retold = f.retold; leads = f.retold_leads; retells = f.retells }) (ap written n.line_is)
    in
    subst (Follows tables contexts h step made) (sym dropped) (record {
      came = came;
      is_came = is;
      answer = n.answer;
      line = line ∙ n.line_is;
      after = emptied tables contexts (record { step = step; came = came; output = made.output } ∷ h) mid new.log (record { leads = n.leads; retold = r.retold; retold_leads = r.leads; retells = r.retells });
    })

-- on the same link, with the same tag
pub followed_marks : (tables : List Contents) (contexts : List (List ℕ)) (step : Step) (output : Output) {old : Shelf} (mid new : Shelf) → Sound old → MakesStep tables contexts old step output mid → new ≡ record mid { log = new.log } → SameMarks old new
followed_marks tables contexts step output {old} mid new sound (came, is, makes) dropped = subst (SameMarks old) (sym dropped) (marks_made step came output mid sound makes)

-- what isn't written changes nothing
pub followed_unwritten : (tables : List Contents) (contexts : List (List ℕ)) (step : Step) (made : Stepped) (old mid new : Shelf) → old.log ≡ [] → MakesStep tables contexts old step made.output mid → made.line ≡ told_from mid.log step made.output → new ≡ record mid { log = new.log }
    → written made.line ≡ None → new ≡ record old { log = new.log }
followed_unwritten tables contexts step made old mid new empty (came, is, makes) line dropped un =
    dropped ∙ ap (λ (s : Shelf). record s { log = new.log }) (unwritten_is step came made.output old mid makes empty (sym (ap written line) ∙ un))

-- the history of a link on which nothing came yet
pub after_none : RowsKeepTheirOrder → (tables : List Contents) (contexts : List (List ℕ)) (link tag : ℕ) → Sound (empty_shelf link tag) → IsAfter tables contexts [] (empty_shelf link tag)
after_none law tables contexts link tag sound =
    let first : Headline [] = headline_none in
    let tied : Tied [] (empty_shelf link tag) = Tied-none link tag in
    let lined : Lined [] (empty_shelf link tag) = Lined-none link tag in
    let freed : Freed [] (empty_shelf link tag) = λ up. refl in
    let leads : LeadsTo tables contexts [] (empty_shelf link tag) =
    record {
      messages = tt;
      answers = tt;
      moments = first;
      identifiers = identifiers_hold law (record { tied = tied; sound = sound; lined = lined }) freed;
      idle = idle_none;
      adds_up = record { totals = refl; few = none_few };
      counted = refl;
      tied = tied;
      lined = lined;
      freed = freed;
    } in record { leads = leads; retold = []; retold_leads = leads; retells = tt }

-- RUNS

pub headline_holds : HeadlineHolds
headline_holds tables contexts base steps outputs r = at_the_end r.history r.headline

-- a history tells of one step more
tells_more : (tables : List Contents) (contexts : List (List ℕ)) (steps : List Step) (outputs : List Output) (h : List Event) (e : Event) → Tells tables contexts steps outputs h → IsCame tables contexts e.step e.came
    → Tells tables contexts (steps ++ e.step ∷ []) (outputs ++ e.output ∷ []) (e ∷ h)
tells_more tables contexts steps outputs h e k is = record {
  steps_are = reverse_onto (map (λ (e : Event). e.step) h) e.step [] ∙ ap (λ xs. xs ++ e.step ∷ []) k.steps_are;
  outputs_are = outputs_more h e ∙ ap (λ xs. xs ++ e.output ∷ []) k.outputs_are;
  messages = (is, k.messages);
}

-- what a run has done so far
pub record SoFar (tables : List Contents) (contexts : List (List ℕ)) (steps : List Step) (outputs : List Output) (book : Shelf) : Type 0 where
  pub history : List Event
  pub tells : Tells tables contexts steps outputs history
  pub after : IsAfter tables contexts history book

-- what a step is, after each history that leads to the book
abbrev pub IsStep : List Contents → List (List ℕ) → Shelf → Step → Stepped → Shelf → Type 0
IsStep tables contexts old step made new = (h : List Event) → IsAfter tables contexts h old → Follows tables contexts h step made new

-- one step more
SoFar-more : {tables : List Contents} {contexts : List (List ℕ)} {steps : List Step} {outputs : List Output} {old : Shelf} (new : Shelf) (step : Step) (made : Stepped) → SoFar tables contexts steps outputs old → IsStep tables contexts old step made new
    → SoFar tables contexts (steps ++ step ∷ []) (outputs ++ made.output ∷ []) new
SoFar-more {tables} {contexts} {steps} {outputs} new step made f follows =
    let g : Follows tables contexts f.history step made new = follows f.history f.after in
    let e : Event = record { step = step; came = g.came; output = made.output } in
    record { history = e ∷ f.history; tells = tells_more tables contexts steps outputs f.history e f.tells g.is_came; after = g.after }

-- the loop over the steps
pub Going-none : {tables : List Contents} {contexts : List (List ℕ)} (steps : List Step) (outputs : List Output) {book : Shelf} → IsAfter tables contexts [] book → outputs ≡ [] → SoFar tables contexts (take 0 steps) outputs book
Going-none {tables} {contexts} steps outputs {book} f none =
    subst (λ os. SoFar tables contexts [] os book) (sym none) (record { history = []; tells = record { steps_are = refl; outputs_are = refl; messages = tt }; after = f })

pub Going-more : {tables : List Contents} {contexts : List (List ℕ)} (steps : List Step) (i : ℕ) {outputs : List Output} (more : List Output) {old : Shelf} (new : Shelf) (step : Step) (made : Stepped) → SoFar tables contexts (take i steps) outputs old → i < length steps → step ≡ slice_index_or steps i step
    → IsStep tables contexts old step made new → more ≡ outputs ++ made.output ∷ [] → SoFar tables contexts (take (i + 1) steps) more new
Going-more {tables} {contexts} steps i {outputs} more new step made f within at follows more_is =
    let longer : SoFar tables contexts (take i steps ++ step ∷ []) (outputs ++ made.output ∷ []) new = SoFar-more new step made f follows in
    let taken : take (i + 1) steps ≡ take i steps ++ step ∷ [] = take_more steps i step within ∙ ap (λ s. take i steps ++ s ∷ []) (sym at) in
    subst (λ ss. SoFar tables contexts ss more new) (sym taken) (subst (λ os. SoFar tables contexts (take i steps ++ step ∷ []) os new) (sym more_is) longer)

pub Going-all : {tables : List Contents} {contexts : List (List ℕ)} (steps : List Step) (i n : ℕ) {outputs : List Output} {book : Shelf} → SoFar tables contexts (take i steps) outputs book → take i steps ≡ steps → base book ≡ n → LogsRun tables contexts n steps outputs
Going-all {tables} {contexts} steps i n {outputs} {book} f all same =
    let g : SoFar tables contexts steps outputs book = subst (λ ss. SoFar tables contexts ss outputs book) all f in
    let k : LeadsTo tables contexts g.history book = g.after.leads in
    let also : LeadsTo tables contexts g.after.retold book = g.after.retold_leads in
    let run : Runs tables contexts n steps outputs =
    record {
      history = g.history;
      tells = g.tells;
      headline = k.moments;
      identifiers = k.identifiers;
      answers = subst (λ n. AllAnswered n g.history) same k.answers;
      adds_up = subst (λ os. AddUp os g.history) g.tells.outputs_are k.adds_up;
      idle = k.idle;
    }
    in (
      run,
      record {
        history = g.after.retold;
        retells = subst (λ n. Retells tables contexts n (lines_told g.history) g.after.retold) same g.after.retells;
        totals = sym also.counted ∙ k.counted;
      },
    )
