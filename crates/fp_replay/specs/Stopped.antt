-- How far a log was replayed, and why no further.
use Rattle.std.specs.Prelude.{◌≡◌, ◌≢◌, ℕ, ◌+◌, ◌<◌, ◌≤◌, Bool, true, false, nat_lt, List, ◌∷◌, ◌++◌, Option, Some, None, IfSome, length, ⊤}
use Rattle.std.specs.Io.KnownBytes.{Appends, Consumes, Keeps}
use Rattle.fp_book.specs.declared.line.Line.{Line}
use Rattle.fp_book.specs.declared.line.Line.TheVariants.{Step}
use Rattle.fp_book.specs.declared.line.LoggedStep.{LoggedStep}
use Rattle.fp_book.specs.declared.line.LoggedStep.TheVariants as logged
use Rattle.fp_entry.specs.declared.prepared.Prepared.{Prepared}
use Rattle.fp_records.specs.Table.{Contents}
use Rattle.fp_steps.specs.Answers.{IsAnswer}
use Rattle.fp_steps.specs.History.{Event, IsCame}
use Rattle.fp_steps.specs.Retold.{step_of}
use Rattle.fp_steps.specs.Told.{told}
use Rattle.fp_steps.specs.declared.output.Output.{Output}
use Rattle.fp_steps.specs.declared.step.Step.{Step as MadeStep}
use Rattle.fp_streams.specs.Ends.{Cause, limit_reached, maybe_at_end, reader_failed, writer_failed_at_end}
use Rattle.fp_streams.specs.Line.{IsOneLine}
use Rattle.fp_streams.specs.Write.{AppendsFront}
use Rattle.fp_tids.specs.Identifiers.{base_of}
use Rattle.fp_replay.specs.Format.{text_of}
use Rattle.fp_replay.specs.Replayed.{Fits, IsReplayed, IsRetold, log_text, tables_for, tag_in}
use Rattle.fp_replay.specs.declared.replay_fault.ReplayFault.{ReplayFault}
use Rattle.fp_replay.specs.declared.replay_fault.ReplayFault.TheVariants.{BadLine, Gap, Disagrees, ReadFault, WriteFault, TurnLimit, Memory}

-- these lines are good, this follows them in the input, and the next line would have this number, counted from 1
pub record Reaches (tables : List Contents) (contexts : List (List ℕ)) (number : ℕ) (input : List ℕ) (before : List Line) (rest : List ℕ) : Type 0 where
  pub good : IsRetold tables contexts before
  pub text : input ≡ log_text before ++ rest
  pub number_is : number ≡ length before + 1

-- what follows these lines doesn't begin with a line of the format, in its place and ended by a line feed; and
-- something does follow, or these are none, and the head is missing
pub record IsBad (tables : List Contents) (before : List Line) (rest : List ℕ) : Type 0 where
  pub is : 0 < length before → 0 < length rest
  pub none : (line : Line) (behind : List ℕ) → Fits tables before line → rest ≡ text_of line ++ 10 ∷ behind → ⊥

-- whether a line says that lines were lost, or that memory ran out for a Clock
abbrev pub is_gap : LoggedStep → Bool
is_gap (logged.Gap lost) = true
is_gap (logged.Tick moment added wanting) = nat_lt 0 wanting
is_gap _ = false

-- a step is answered after this history of its link, and has another log line
pub record HasOtherLine (tables : List Contents) (contexts : List (List ℕ)) (base : ℕ) (h : List Event) (line : LoggedStep) (step : MadeStep) : Type 0 where
  pub came : Option Prepared
  pub came_is : IsCame tables contexts step came
  pub output : Output
  pub answer : IsAnswer base h step came output
  pub differs : told h step output ≢ Some line

-- so the step of a line; or it has none, since by it a turn comes back that isn't out
abbrev pub DiffersBy : List Contents → List (List ℕ) → ℕ → List Event → LoggedStep → Option MadeStep → Type 0
DiffersBy tables contexts base h line None = ⊤
DiffersBy tables contexts base h line (Some step) = HasOtherLine tables contexts base h line step

-- after this history of its link a line disagrees
abbrev pub Differs : List Contents → List (List ℕ) → ℕ → List Event → LoggedStep → Type 0
Differs tables contexts base h line = DiffersBy tables contexts base h line (step_of h line)

-- the line of this number is bad, and those before it are good
pub record BadAt (tables : List Contents) (contexts : List (List ℕ)) (number : ℕ) (input : List ℕ) : Type 0 where
  pub before : List Line
  pub rest : List ℕ
  pub reaches : Reaches tables contexts number input before rest
  pub bad : IsBad tables before rest

-- the line of this number is a step of a link, in its place, and those before it are good
pub record StepAt (tables : List Contents) (contexts : List (List ℕ)) (number : ℕ) (input : List ℕ) : Type 0 where
  pub before : List Line
  pub link : ℕ
  pub step : LoggedStep
  pub behind : List ℕ
  pub fits : Fits tables before (Step link step)
  pub reaches : Reaches tables contexts number input before (text_of (Step link step) ++ 10 ∷ behind)

-- and it is a gap
abbrev pub GapAt : List Contents → List (List ℕ) → ℕ → List ℕ → Type 0
GapAt tables contexts number input = (at : StepAt tables contexts number input) × (is_gap at.step ≡ true)

-- and it disagrees: its step, replayed, has another line
abbrev pub DisagreesAt : List Contents → List (List ℕ) → ℕ → List ℕ → Type 0
DisagreesAt tables contexts number input =
    (at : StepAt tables contexts number input) × (is_gap at.step ≡ false)
    × Differs (tables_for at.before tables) contexts (base_of at.link (tag_in at.before)) (at.reaches.good.history at.link) at.step

-- how many octets a line may have, its line feed not counted
abbrev pub most_line : ℕ
most_line = 8300

-- this much of the input was read, and each line of it that a line feed ended is good; the line that was begun after
-- them is at most as long as a line may be
pub record ReachesEnd (tables : List Contents) (contexts : List (List ℕ)) (left : Option (List ℕ)) (input : List ℕ) : Type 0 where
  pub read : List ℕ
  pub consumed : Consumes (Some input) left read
  pub lines : List Line
  pub begun : List ℕ
  pub text : read ≡ log_text lines ++ begun
  pub one_line : IsOneLine begun
  pub short : length begun ≤ most_line
  pub good : IsRetold tables contexts lines

-- the whole log is replayed, and a front of its report was written
pub record Reports (tables : List Contents) (contexts : List (List ℕ)) (old new : Option (List ℕ)) (input : List ℕ) : Type 0 where
  pub report : List ℕ
  pub replayed : IsReplayed tables contexts input report
  pub front : AppendsFront old new report

-- the whole log is replayed, and its report was written
pub record Replays (tables : List Contents) (contexts : List (List ℕ)) (old new : Option (List ℕ)) (input : List ℕ) : Type 0 where
  pub report : List ℕ
  pub replayed : IsReplayed tables contexts input report
  pub wrote : Appends old new report

-- why a log has no report, of a reader that had these octets and has those left
abbrev pub Halts : List Contents → List (List ℕ) → Option (List ℕ) → Option (List ℕ) → ReplayFault → Type 0
Halts tables contexts had left (BadLine number) = IfSome had (BadAt tables contexts number)
Halts tables contexts had left (Gap number) = IfSome had (GapAt tables contexts number)
Halts tables contexts had left (Disagrees number) = IfSome had (DisagreesAt tables contexts number)
Halts tables contexts had left ReadFault = IfSome had (ReachesEnd tables contexts left)
Halts tables contexts had left WriteFault = ⊥
Halts tables contexts had left TurnLimit = IfSome had (ReachesEnd tables contexts left)
Halts tables contexts had left Memory = ⊤

-- and why its report wasn't written
abbrev pub Stops : List Contents → List (List ℕ) → Option (List ℕ) → Option (List ℕ) → Option (List ℕ) → Option (List ℕ) → ReplayFault → Type 0
Stops tables contexts had left old new WriteFault = IfSome had (Reports tables contexts old new)
Stops tables contexts had left old new fault = Halts tables contexts had left fault

-- nothing was written, unless writing failed
abbrev pub IsUnwritten : Option (List ℕ) → Option (List ℕ) → ReplayFault → Type 0
IsUnwritten old new WriteFault = ⊤
IsUnwritten old new _ = Keeps old new

-- what a fault says of the reader and the writer
abbrev pub cause_of : ReplayFault → Cause
cause_of ReadFault = reader_failed
cause_of WriteFault = writer_failed_at_end
cause_of TurnLimit = limit_reached
cause_of _ = maybe_at_end
