-- What holds of all inputs that are replayed.
use Rattle.std.specs.Prelude.{◌≡◌, ℕ, List}
use Rattle.fp_book.specs.declared.line.Line.{Line}
use Rattle.fp_book.specs.declared.totals.Totals.{Totals}
use Rattle.fp_records.specs.Table.{Contents}
use Rattle.fp_steps.specs.Counted.{totals_in}
use Rattle.fp_steps.specs.History.{Event}
use Rattle.fp_replay.specs.Replayed.{IsReplayed, links_in, report_of, steps_of}
use Rattle.fp_replay.specs.Stopped.{BadAt, DisagreesAt, GapAt}
use Rattle.fp_replay.specs.declared.replay_fault.ReplayFault.{ReplayFault}
use Rattle.fp_replay.specs.declared.replay_fault.ReplayFault.TheVariants.{BadLine, Gap, Disagrees}

-- the line of this number has this fault, and those before it are good
abbrev pub IsFaultIn : List Contents → List (List ℕ) → List ℕ → ReplayFault → Type 0
IsFaultIn tables contexts input (BadLine number) = BadAt tables contexts number input
IsFaultIn tables contexts input (Gap number) = GapAt tables contexts number input
IsFaultIn tables contexts input (Disagrees number) = DisagreesAt tables contexts number input
IsFaultIn tables contexts input _ = ⊥

-- an input has one report at most
abbrev pub ReportIsOne : Type 0
ReportIsOne =
    (tables : List Contents) (contexts : List (List ℕ)) (input x y : List ℕ)
    → IsReplayed tables contexts input x → IsReplayed tables contexts input y → x ≡ y

-- an input that has a report has no line that is bad, a gap, or disagrees
abbrev pub ReplayedHasNoFault : Type 0
ReplayedHasNoFault =
    (tables : List Contents) (contexts : List (List ℕ)) (input report : List ℕ) (fault : ReplayFault)
    → IsReplayed tables contexts input report → IsFaultIn tables contexts input fault → ⊥

-- an input has one fault at most: one line, and one reason
abbrev pub FaultIsOne : Type 0
FaultIsOne =
    (tables : List Contents) (contexts : List (List ℕ)) (input : List ℕ) (x y : ReplayFault)
    → IsFaultIn tables contexts input x → IsFaultIn tables contexts input y → x ≡ y

-- what can be counted in the lines of a link
abbrev pub counted_along : List Line → (ℕ → List Event) → ℕ → Totals
counted_along lines history link = totals_in (steps_of link lines) (history link)

-- the totals in a report are what can be counted in the lines of the log
abbrev pub ReportCountsLines : Type 0
ReportCountsLines =
    (tables : List Contents) (contexts : List (List ℕ)) (input report : List ℕ) → (replayed : IsReplayed tables contexts input report)
    → report ≡ report_of (links_in replayed.lines) (counted_along replayed.lines replayed.good.history)
