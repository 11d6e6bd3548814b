-- What becomes of the dialogues of a link, their deadlines and their queue while each that is due is given a Clock.
use Rattle.std.specs.Prelude.{◌≡◌, ℕ, ◌+◌, ◌≤◌, ◌==◌, Bool, true, List, ◌++◌, Option, Some, None, length, filter, map, if◌then◌else◌, All, AllPairs}
use Rattle.std.specs.List.{list_any}
use Rattle.std.specs.Ordering.{nat_cmp}
use Rattle.std.specs.FinMap.{FinMap, get, len, remove}
use Rattle.fp_book.specs.Limits.{most_dialogues}
use Rattle.fp_book.specs.declared.ticking.Clocked.{Clocked}
use Rattle.fp_book.specs.declared.ticking.Clocked.TheVariants.{Given, NoneDue, OutOfMemory}
use Rattle.fp_book.specs.Calls.{ClocksAt, ComesFirst, Due, is_idle, joins}
use Rattle.fp_book.specs.proof_only.Dialogues.{ClockedAt, Rows}
use Rattle.fp_book.specs.Shelf.{one_if, turns_of}
use Rattle.fp_book.specs.Totals.{sum_of}
use Rattle.fp_book.specs.proof_only.Views.{AreTimed}
use Rattle.fp_row.specs.declared.row.Row.{Row}
use Rattle.fp_row.specs.Row.{deadline_of, is_due, is_ready}
use Rattle.fp_timers.specs.Deadlines.{IsEarliestDueAfter}
use Rattle.fp_timers.specs.declared.timers.Timer.{Timer}

abbrev pub Deadlines : Type 0
Deadlines = FinMap nat_cmp ℕ

-- one for a dialogue that is due at this moment
abbrev pub due_now : ℕ → Row → ℕ
due_now moment row = if is_due row moment then 1 else 0

-- what is relied on: the deadlines are those of the dialogues, at most `most_dialogues`, and the queue has as many as
-- are ready
pub record AreAgreed (rows : Rows) (deadlines : Deadlines) (ready : List ℕ) : Type 0 where
  pub timed : AreTimed deadlines rows
  pub held : len rows ≤ most_dialogues
  pub ready_length : length ready ≡ sum_of (λ row. one_if (is_ready row)) rows

-- nothing changed
abbrev pub Stays : Rows → Deadlines → List ℕ → Rows → Deadlines → List ℕ → Type 0
Stays rows deadlines ready rows_then deadlines_then ready_then = (rows_then ≡ rows) × (deadlines_then ≡ deadlines) × (ready_then ≡ ready)

-- the dialogue with the earliest deadline after the last is due, and is given a Clock
pub record ClocksNext (last : Option Timer) (moment : ℕ) (rows : Rows) (deadlines : Deadlines) (ready : List ℕ) (rows_then : Rows) (deadlines_then : Deadlines) (ready_then : List ℕ) : Type 0 where
  pub timer : Timer
  pub is_joining : Bool
  pub first : IsEarliestDueAfter deadlines last moment (Some timer)
  pub clocked : ClockedAt rows timer.local moment is_joining rows_then
  pub deadlines_are : deadlines_then ≡ remove deadlines timer.local
  pub ready_is : ready_then ≡ ready ++ joins timer.local is_joining

-- one was, or nothing changed: none is due, or memory ran out for one
abbrev pub ClocksIf : Clocked → Option Timer → ℕ → Rows → Deadlines → List ℕ → Rows → Deadlines → List ℕ → Type 0
ClocksIf Given last moment rows deadlines ready rows_then deadlines_then ready_then = ClocksNext last moment rows deadlines ready rows_then deadlines_then ready_then
ClocksIf NoneDue last moment rows deadlines ready rows_then deadlines_then ready_then = Stays rows deadlines ready rows_then deadlines_then ready_then × IsEarliestDueAfter deadlines last moment None
ClocksIf (OutOfMemory timer) last moment rows deadlines ready rows_then deadlines_then ready_then = Stays rows deadlines ready rows_then deadlines_then ready_then × IsEarliestDueAfter deadlines last moment (Some timer)

-- the dialogue is due, and this is its deadline
pub record IsDueIn (rows : Rows) (moment : ℕ) (due : Due) : Type 0 where
  pub row : Row
  pub was : get rows due.1 ≡ Some row
  pub deadline : deadline_of row ≡ Some due.0
  pub now : is_due row moment ≡ true

-- whether a dialogue is among them
abbrev pub is_among : ℕ → List Due → Bool
is_among local due = list_any (λ (d : Due). d.1 == local) due

-- those of them that become ready, in their order
abbrev pub idle_among : Rows → List Due → List ℕ
idle_among rows due = filter (λ local. is_idle (get rows local)) (map (λ (d : Due). d.1) due)

-- this number of dialogues was given a Clock so far
pub record Clocking (moment : ℕ) (old : Rows) (was : List ℕ) (rows : Rows) (deadlines : Deadlines) (ready : List ℕ) (added : ℕ) : Type 0 where
  -- those that were, in their order
  pub due : List Due
  pub in_order : AllPairs ComesFirst due
  pub are_due : All (IsDueIn old moment) due
  pub added_is : added ≡ length due
  -- they have no deadline
  pub cleared : (local : ℕ) → is_among local due ≡ true → get deadlines local ≡ None
  pub rows_are : (local : ℕ) → ClocksAt (is_among local due) moment (get old local) (get rows local)
  pub ready_is : ready ≡ was ++ idle_among old due
  pub agreed : AreAgreed rows deadlines ready
  -- those that are still due
  pub left : sum_of (due_now moment) rows + added ≡ sum_of (due_now moment) old
  pub turns : sum_of turns_of rows ≡ sum_of turns_of old
