-- How a run stands to a history that leads to it, and what a step adds to both.
use Rattle.std.specs.Prelude.{◌≡◌, ℕ, List, ◌∷◌, Option}
use Rattle.std.specs.List.{AllByRecursion}
use Rattle.fp_book.specs.Shelf.{Shelf, base}
use Rattle.fp_entry.specs.declared.prepared.Prepared.{Prepared}
use Rattle.fp_records.specs.Table.{Contents}
use Rattle.fp_steps.specs.declared.step.Step.{Step}
use Rattle.fp_steps.specs.declared.stepped.Stepped.{Stepped}
use Rattle.fp_steps.specs.Answers.{AllAnswered, IsAnswer}
use Rattle.fp_steps.specs.Headline.{Headline}
use Rattle.fp_steps.specs.History.{AtEachMoment, Event, IsCame, outputs_of}
use Rattle.fp_steps.specs.Idle.{IdleIsDone}
use Rattle.fp_steps.specs.Lined.{Freed, Lined}
use Rattle.fp_steps.specs.Retold.{Retells}
use Rattle.fp_steps.specs.Serials.{IdentifiersHold}
use Rattle.fp_steps.specs.Tied.{Tied}
use Rattle.fp_steps.specs.Told.{lines_told, told}
use Rattle.fp_steps.specs.Totals.{AddUp, totals_of}

-- This history leads to this book, by these tables and names: its messages are what their octets are prepared to, each
-- output is the answer at its moment, the headline holds at each and so does what identifiers promise, nothing is left
-- to do at those at which the link is idle, and the book has what the history tells.
pub record LeadsTo (tables : List Contents) (contexts : List (List ℕ)) (h : List Event) (book : Shelf) : Type 0 where
  pub messages : AllByRecursion (λ (e : Event). IsCame tables contexts e.step e.came) h
  pub answers : AllAnswered (base book) h
  pub moments : AtEachMoment Headline h
  pub identifiers : AtEachMoment IdentifiersHold h
  pub idle : AtEachMoment IdleIsDone h
  pub adds_up : AddUp (outputs_of h) h
  pub counted : book.totals ≡ totals_of (outputs_of h)
  -- the dialogues that are held, and what waits
  pub tied : Tied h book
  pub lined : Lined h book
  -- the serials that may be given
  pub freed : Freed h book

-- so it does, and so does a history that retells the lines of its log
pub record IsAfter (tables : List Contents) (contexts : List (List ℕ)) (h : List Event) (book : Shelf) : Type 0 where
  pub leads : LeadsTo tables contexts h book
  pub retold : List Event
  pub retold_leads : LeadsTo tables contexts retold book
  pub retells : Retells tables contexts (base book) (lines_told h) retold

-- A step is made after this history: it is answered and told as that tells, and the longer history leads to what the
-- book is then.
pub record Follows (tables : List Contents) (contexts : List (List ℕ)) (h : List Event) (step : Step) (made : Stepped) (book : Shelf) : Type 0 where
  pub came : Option Prepared
  pub is_came : IsCame tables contexts step came
  pub answer : IsAnswer (base book) h step came made.output
  pub line : made.line ≡ told h step made.output
  pub after : IsAfter tables contexts (record { step = step; came = came; output = made.output } ∷ h) book
