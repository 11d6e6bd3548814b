-- What taking a line makes of the runs of the links.
use Rattle.std.specs.Prelude.{◌≡◌, Bool, true, false, ℕ, List, [], ◌∷◌, Some, Result, Ok, Err, length, slice_get, ⊤}
use Rattle.fp_book.specs.declared.line.Line.{Line}
use Rattle.fp_book.specs.declared.line.Line.TheVariants.{Head, Step}
use Rattle.fp_records.specs.Table.{Contents}
use Rattle.fp_steps.specs.History.{Event}
use Rattle.fp_steps.specs.Places.{handed_in}
use Rattle.fp_steps.specs.declared.link_run.LinkRun.{LinkRun}
use Rattle.fp_streams.specs.declared.fault.LinesFault.{LinesFault}
use Rattle.fp_streams.specs.declared.fault.LinesFault.TheVariants as reading
use Rattle.fp_replay.specs.declared.links.Links.{Links}
use Rattle.fp_replay.specs.declared.replay_fault.Refusal.{Refusal}
use Rattle.fp_replay.specs.declared.replay_fault.Refusal.TheVariants.{BadLine, Gap, Disagrees, Memory}
use Rattle.fp_replay.specs.declared.replay_fault.ReplayFault.{ReplayFault}
use Rattle.fp_replay.specs.declared.replay_fault.ReplayFault.TheVariants as faults
use Rattle.fp_replay.specs.Format.{IsLine, text_of}
use Rattle.fp_steps.specs.After.{IsAfter}
use Rattle.fp_replay.specs.Replayed.{Fits, IsInPlace, IsRetold, links_in, report_of, tables_for, tag_in, totals_along}
use Rattle.fp_replay.specs.Stopped.{Differs, is_gap}
use Rattle.fp_tids.specs.Identifiers.{base_of}

-- the fault of a log whose line of this number is refused
abbrev pub fault_at : Refusal → ℕ → ReplayFault
fault_at BadLine number = faults.BadLine number
fault_at Gap number = faults.Gap number
fault_at Disagrees number = faults.Disagrees number
fault_at Memory number = faults.Memory

-- the fault of a log whose lines weren't all taken
abbrev pub fault_of : LinesFault Refusal → ReplayFault
fault_of (reading.TooLong number) = faults.BadLine number
fault_of (reading.Refused number refusal) = fault_at refusal number
fault_of reading.ReadFault = faults.ReadFault
fault_of reading.TurnLimit = faults.TurnLimit
fault_of reading.Memory = faults.Memory

-- a run is one of this link and tag, after this history
pub record IsRunOf (tables : List Contents) (contexts : List (List ℕ)) (link tag : ℕ) (h : List Event) (run : LinkRun) : Type 0 where
  pub link_is : run.link ≡ link
  pub tag_is : run.tag ≡ tag
  pub after : IsAfter (handed_in tag tables) contexts h run

-- each run is one of its link and this tag, after its history
abbrev pub AreAfter : List Contents → List (List ℕ) → ℕ → (ℕ → List Event) → List LinkRun → Type 0
AreAfter tables contexts tag history runs = (link : ℕ) (run : LinkRun) → slice_get runs link ≡ Some run → IsRunOf tables contexts link tag (history link) run

-- the head wasn't read yet
abbrev pub AreNone : Links → Type 0
AreNone links = (links.tag ≡ 0) × (links.runs.items ≡ [])

-- the lines are retold, the tag is theirs, and the runs are those of their links
pub record IsKept (tables : List Contents) (contexts : List (List ℕ)) (lines : List Line) (links : Links) : Type 0 where
  pub good : IsRetold tables contexts lines
  pub tag_is : links.tag ≡ tag_in lines
  pub many : length links.runs.items ≡ links_in lines
  pub each : AreAfter tables contexts (tag_in lines) good.history links.runs.items

-- a step disagrees after the history of its link
abbrev pub DiffersIn : (tables : List Contents) (contexts : List (List ℕ)) (lines : List Line) → IsRetold tables contexts lines → Line → Type 0
DiffersIn tables contexts lines good (Head links tag) = ⊥
DiffersIn tables contexts lines good (Step link step) = (is_gap step ≡ false) × Differs (tables_for lines tables) contexts (base_of link (tag_in lines)) (good.history link) step

-- a line is a gap
abbrev pub IsGapLine : Line → Type 0
IsGapLine (Head links tag) = ⊥
IsGapLine (Step link step) = is_gap step ≡ true

-- what comes of a line of the format after these
abbrev pub Taken : (tables : List Contents) (contexts : List (List ℕ)) (lines : List Line) → IsRetold tables contexts lines → Line → Result (Unit {0}) Refusal → Links → Type 0
Taken tables contexts lines good line (Ok done) new = IsInPlace tables lines line × IsKept tables contexts (line ∷ lines) new
Taken tables contexts lines good line (Err BadLine) new = IsInPlace tables lines line → ⊥
Taken tables contexts lines good line (Err Gap) new = IsInPlace tables lines line × IsGapLine line
Taken tables contexts lines good line (Err Disagrees) new = IsInPlace tables lines line × DiffersIn tables contexts lines good line
Taken tables contexts lines good line (Err Memory) new = ⊤

abbrev pub Taking : List Contents → List (List ℕ) → Links → Line → Result (Unit {0}) Refusal → Links → Type 0
Taking tables contexts old line result new =
    (lines : List Line) (kept : IsKept tables contexts lines old) → IsLine line → Taken tables contexts lines kept.good line result new

-- what comes of the text of a line after these
abbrev pub TakesText : (tables : List Contents) (contexts : List (List ℕ)) (lines : List Line) → IsRetold tables contexts lines → List ℕ → Result (Unit {0}) Refusal → Links → Type 0
TakesText tables contexts lines good text (Ok done) new =
    (line : Line) × Fits tables lines line × (text ≡ text_of line) × IsKept tables contexts (line ∷ lines) new
TakesText tables contexts lines good text (Err BadLine) new = (line : Line) → Fits tables lines line → text ≡ text_of line → ⊥
TakesText tables contexts lines good text (Err Gap) new = (line : Line) × Fits tables lines line × (text ≡ text_of line) × IsGapLine line
TakesText tables contexts lines good text (Err Disagrees) new =
    (line : Line) × Fits tables lines line × (text ≡ text_of line) × DiffersIn tables contexts lines good line
TakesText tables contexts lines good text (Err Memory) new = ⊤

abbrev pub TakingText : List Contents → List (List ℕ) → Links → List ℕ → Result (Unit {0}) Refusal → Links → Type 0
TakingText tables contexts old text result new =
    (lines : List Line) (kept : IsKept tables contexts lines old) → TakesText tables contexts lines kept.good text result new

-- what comes of a text and what ended it: a line of a log ends with its line feed
abbrev pub TakingEnded : List Contents → List (List ℕ) → Links → Bool → List ℕ → Result (Unit {0}) Refusal → Links → Type 0
TakingEnded tables contexts old true text result new = TakingText tables contexts old text result new
TakingEnded tables contexts old false text result new = result ≡ Err BadLine

-- this is the report of the runs of all links
abbrev pub IsReport : List LinkRun → List ℕ → Type 0
IsReport runs report =
    (tables : List Contents) (contexts : List (List ℕ)) (tag : ℕ) (history : ℕ → List Event) → AreAfter tables contexts tag history runs
    → report ≡ report_of (length runs) (totals_along history)

-- there is none: there was no head, or memory ran out
abbrev pub IsUnreported : List LinkRun → ReplayFault → Type 0
IsUnreported runs (faults.BadLine number) = (number ≡ 1) × (runs ≡ [])
IsUnreported runs faults.Memory = ⊤
IsUnreported runs _ = ⊥

-- these are runs of the links 0, 1 and so on, with this tag, on each of which nothing came yet
pub record AreNew (many tag : ℕ) (runs : List LinkRun) : Type 0 where
  pub length_is : length runs ≡ many
  pub each : (tables : List Contents) (contexts : List (List ℕ)) (link : ℕ) (run : LinkRun) → slice_get runs link ≡ Some run → IsRunOf tables contexts link tag [] run
