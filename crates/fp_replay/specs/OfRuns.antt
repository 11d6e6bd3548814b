-- The log of a run, as a text, is replayed.
use Rattle.std.specs.Prelude.{ℕ, List, [], ◌∷◌, ◌++◌}
use Rattle.std.specs.List.{flat_map}
use Rattle.fp_book.specs.declared.line.Line.{Line}
use Rattle.fp_records.specs.Table.{Contents}
use Rattle.fp_steps.specs.LogLines.{IsLog}
use Rattle.fp_steps.specs.Places.{handed_in}
use Rattle.fp_steps.specs.Retold.{LogsRun}
use Rattle.fp_steps.specs.Totals.{totals_of}
use Rattle.fp_steps.specs.declared.output.Output.{Output}
use Rattle.fp_steps.specs.declared.step.Step.{Step}
use Rattle.fp_tids.specs.Identifiers.{base_of}
use Rattle.fp_replay.specs.Format.{text_of}
use Rattle.fp_replay.specs.Replayed.{IsReplayed, report_line, report_of}

-- lines in their order, written one after the other
abbrev pub file_of : List Line → List ℕ
file_of lines = flat_map (λ line. text_of line ++ 10 ∷ []) lines

-- the report of a run on a link: nothing was done on those before it
abbrev pub report_of_run : ℕ → List Output → List ℕ
report_of_run link outputs = report_of link (λ before. totals_of []) ++ report_line link (totals_of outputs)

-- the log of a run is replayed to the totals of the run
abbrev pub LogsOfRunsAreReplayed : Type 0
LogsOfRunsAreReplayed =
    (tables : List Contents) (contexts : List (List ℕ)) (link tag : ℕ) (steps : List Step) (outputs : List Output) (log : List Line)
    → LogsRun (handed_in tag tables) contexts (base_of link tag) steps outputs → IsLog link tag steps outputs log
    → IsReplayed tables contexts (file_of log) (report_of_run link outputs)
