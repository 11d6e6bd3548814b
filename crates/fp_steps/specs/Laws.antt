-- What holds of all runs, and of all histories of runs.
use Rattle.std.specs.Prelude.{◌≡◌, ◌≤◌, ◌<◌, ◌+◌, ◌-◌, ℕ, List, Option, Some, None, slice_get, ◌⊎◌}
use mathlib.Core.List.{IsPrefix}
use Rattle.fp_book.specs.Limits.{most_dialogues}
use Rattle.fp_book.specs.Log as book
use Rattle.fp_book.specs.Shelf.{Shelf, Sound, base}
use Rattle.fp_book.specs.declared.line.LoggedStep.{LoggedStep}
use Rattle.fp_entry.specs.declared.prepared.Prepared.{Prepared}
use Rattle.fp_tids.specs.Identifiers.{last_serial}
use Rattle.fp_steps.specs.Accepted.{accepted}
use Rattle.fp_steps.specs.After.{LeadsTo}
use Rattle.fp_steps.specs.Answers.{IsAnswer}
use Rattle.fp_steps.specs.Births.{beginning, births, local_of}
use Rattle.fp_records.specs.Table.{Contents}
use Rattle.fp_steps.specs.Counted.{totals_in}
use Rattle.fp_steps.specs.Headline.{Headline, InOrder, Runs}
use Rattle.fp_steps.specs.History.{Event, IsCame, outputs_of}
use Rattle.fp_steps.specs.Makes.{MakesOf}
use Rattle.fp_steps.specs.Retold.{Retells}
use Rattle.fp_steps.specs.Sending.{sent}
use Rattle.fp_steps.specs.Tied.{Tied}
use Rattle.fp_steps.specs.Told.{logged}
use Rattle.fp_steps.specs.Totals.{totals_of}
use Rattle.fp_steps.specs.declared.output.Output.{Output}
use Rattle.fp_steps.specs.declared.step.Step.{Step}

-- A dialogue that has the same birth in two histories, began so with the same identifiers and at the same moment, and
-- accepted the same entries: what was sent for it in one of them is a front of what was sent in the other.
abbrev pub SentAlike : Type 0
SentAlike =
    (g h : List Event) (d : ℕ) → InOrder g d → InOrder h d → beginning g d ≡ beginning h d → accepted g d ≡ accepted h d
    → IsPrefix (sent g d) (sent h d) ⊎ IsPrefix (sent h d) (sent g d)

-- What holds at each moment of a run holds of its whole history.
abbrev pub HeadlineHolds : Type 0
HeadlineHolds =
    (tables : List Contents) (contexts : List (List ℕ)) (base : ℕ) (steps : List Step) (outputs : List Output)
    → (run : Runs tables contexts base steps outputs) → Headline run.history

-- A step has one answer after a history, by what its message is prepared to, which is one thing.
abbrev pub AnswersAreOne : Type 0
AnswersAreOne =
    (tables : List Contents) (contexts : List (List ℕ)) (base : ℕ) (h : List Event) (step : Step) (came other : Option Prepared) (x y : Output)
    → IsCame tables contexts step came → IsCame tables contexts step other → IsAnswer base h step came x → IsAnswer base h step other y → x ≡ y

-- A list of steps has one list of outputs and one history, whatever makes the steps.
abbrev pub RunsAreOne : Type 0
RunsAreOne =
    (tables : List Contents) (contexts : List (List ℕ)) (base : ℕ) (steps : List Step) (outputs others : List Output)
    → (run : Runs tables contexts base steps outputs) (other : Runs tables contexts base steps others) → (outputs ≡ others) × (run.history ≡ other.history)

-- After each history that leads to a book each step has an answer, whatever its message is prepared to.
abbrev pub AnswersExist : Type 0
AnswersExist =
    (tables : List Contents) (contexts : List (List ℕ)) (h : List Event) (s : Shelf) (step : Step) (came : Option Prepared)
    → LeadsTo tables contexts h s → Sound s → (output : Output) × IsAnswer (base s) h step came output

-- Between two dialogues of a run with one local transaction identifier at least 126,976 others are opened.
abbrev pub IdentifiersComeBackLate : Type 0
IdentifiersComeBackLate =
    (tables : List Contents) (contexts : List (List ℕ)) (base : ℕ) (steps : List Step) (outputs : List Output)
    → (run : Runs tables contexts base steps outputs) (c d : ℕ) → 0 < c → c < d → d ≤ births run.history
    → local_of run.history c ≡ local_of run.history d → c + (last_serial - most_dialogues) < d

-- The lines of a log are retold by one history.
abbrev pub LinesAreRetoldOnce : Type 0
LinesAreRetoldOnce =
    (tables : List Contents) (contexts : List (List ℕ)) (base : ℕ) (lines : List LoggedStep) (g h : List Event)
    → Retells tables contexts base lines g → Retells tables contexts base lines h → g ≡ h

-- The totals of a history that retells lines are what can be counted in those.
abbrev pub RetoldLinesAreCounted : Type 0
RetoldLinesAreCounted =
    (tables : List Contents) (contexts : List (List ℕ)) (base : ℕ) (lines : List LoggedStep) (h : List Event)
    → Retells tables contexts base lines h → totals_of (outputs_of h) ≡ totals_in lines h

-- a log with the line of one more step, if that has one
abbrev pub log_with : List LoggedStep → Option LoggedStep → List LoggedStep
log_with log None = log
log_with log (Some line) = book.logged log line

-- each table has the place in which it is handed in
abbrev pub AreInPlace : List Contents → Type 0
AreInPlace tables = (place : ℕ) (contents : Contents) → slice_get tables place ≡ Some contents → contents.index ≡ place

-- A book to which a history leads logs of a step what the history tells of it, and nothing if that has no line; where
-- each table has the place in which it is handed in.
abbrev pub BooksLogWhatIsTold : Type 0
BooksLogWhatIsTold =
    (tables : List Contents) (contexts : List (List ℕ)) (h : List Event) (step : Step) (came : Option Prepared) (output : Output) (s after : Shelf)
    → AreInPlace tables → Tied h s → Sound s → IsCame tables contexts step came → MakesOf step came output s after → after.log ≡ log_with s.log (logged h step output)
