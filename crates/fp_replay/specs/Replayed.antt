-- Which log is replayed, and to which report, by the tables of records that are handed in. The lines of a log are
-- given the newest first, as histories are.
use Rattle.std.specs.Prelude.{◌≡◌, ℕ, ◌<◌, ◌==◌, List, [], ◌∷◌, ◌++◌, codes, decimal, length, zero, suc, ⊤, if◌then◌else◌}
use Rattle.fp_book.specs.declared.line.Line.{Line}
use Rattle.fp_book.specs.declared.line.Line.TheVariants.{Head, Step}
use Rattle.fp_book.specs.declared.line.LoggedStep.{LoggedStep}
use Rattle.fp_book.specs.declared.line.LoggedStep.TheVariants.{Post}
use Rattle.fp_book.specs.declared.totals.Totals.{Totals}
use Rattle.fp_records.specs.Table.{Contents}
use Rattle.fp_steps.specs.History.{Event, outputs_of}
use Rattle.fp_steps.specs.Places.{handed_in}
use Rattle.fp_steps.specs.Retold.{Retells}
use Rattle.fp_steps.specs.Totals.{totals_of}
use Rattle.fp_tids.specs.Identifiers.{base_of}
use Rattle.fp_replay.specs.Format.{IsLine, text_of}

-- the text of lines: each ends with a line feed
abbrev pub log_text : List Line → List ℕ
log_text [] = []
log_text (line ∷ before) = log_text before ++ (text_of line ++ 10 ∷ [])

-- how many links the head has; none if there is no head
abbrev pub links_in : List Line → ℕ
links_in [] = 0
links_in (Head links tag ∷ before) = links
links_in (Step link step ∷ before) = links_in before

-- the tag that the head has, and 0 if there is no head
abbrev pub tag_in : List Line → ℕ
tag_in [] = 0
tag_in (Head links tag ∷ before) = tag
tag_in (Step link step ∷ before) = tag_in before

-- the tables that a run with the tag of these lines has, of those that are handed in
abbrev pub tables_for : List Line → List Contents → List Contents
tables_for lines tables = handed_in (tag_in lines) tables

-- the table by which a message was read is among these
abbrev pub HasTable : List Contents → LoggedStep → Type 0
HasTable tables (Post table moment message answer) = table < length tables
HasTable tables _ = ⊤

-- the head comes before all others, and each other line is a step of a link that the head has, by a table that the run
-- has: one that was handed in, in a place up to the last one of the tag in the head
abbrev pub IsInPlace : List Contents → List Line → Line → Type 0
IsInPlace tables [] (Head links tag) = ⊤
IsInPlace tables (last ∷ before) (Step link step) = (link < links_in (last ∷ before)) × HasTable (tables_for (last ∷ before) tables) step
IsInPlace tables _ _ = ⊥

-- a line of the format, in its place after these
abbrev pub Fits : List Contents → List Line → Line → Type 0
Fits tables before line = IsLine line × IsInPlace tables before line

abbrev pub AllFit : List Contents → List Line → Type 0
AllFit tables [] = ⊤
AllFit tables (line ∷ before) = Fits tables before line × AllFit tables before

-- the steps of a link among these lines
abbrev pub steps_of : ℕ → List Line → List LoggedStep
steps_of link [] = []
steps_of link (Head links tag ∷ before) = steps_of link before
steps_of link (Step other step ∷ before) = if other == link then step ∷ steps_of link before else steps_of link before

-- All lines are of the format and in their places, and each link has a history in which its steps, replayed one after
-- another, are answered as its lines have it.
pub record IsRetold (tables : List Contents) (contexts : List (List ℕ)) (lines : List Line) : Type 0 where
  pub fit : AllFit tables lines
  pub history : ℕ → List Event
  pub retells : (link : ℕ) → link < links_in lines → Retells (tables_for lines tables) contexts (base_of link (tag_in lines)) (steps_of link lines) (history link)

-- the totals of a history
abbrev pub totals_after : List Event → Totals
totals_after h = totals_of (outputs_of h)

-- the line of a link in the report
abbrev pub report_line : ℕ → Totals → List ℕ
report_line link totals =
    codes "link " ++ (decimal link ++ (codes " accepted " ++ (decimal totals.accepted
    ++ (codes " served " ++ (decimal totals.served ++ (codes " sent " ++ (decimal totals.sent ++ 10 ∷ [])))))))

-- the lines of the links below this number, in their order, by the totals of each
abbrev pub report_of : ℕ → (ℕ → Totals) → List ℕ
report_of zero totals = []
report_of (suc link) totals = report_of link totals ++ report_line link (totals link)

-- the totals of the links' histories
abbrev pub totals_along : (ℕ → List Event) → ℕ → Totals
totals_along history link = totals_after (history link)

-- the input is a log, from its head on, whose lines are retold, and this is the report of its links
pub record IsReplayed (tables : List Contents) (contexts : List (List ℕ)) (input report : List ℕ) : Type 0 where
  pub lines : List Line
  pub begun : 0 < length lines
  pub text : input ≡ log_text lines
  pub good : IsRetold tables contexts lines
  pub report_is : report ≡ report_of (links_in lines) (totals_along good.history)
