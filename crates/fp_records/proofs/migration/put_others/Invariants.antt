use Rattle.std.proofs.Common.{◌≡◌, ◌++◌, ℕ, List, length}
use Rattle.fp_records.specs.Migration.{HasWritten, text_of}
use Rattle.fp_records.proofs.migration.put_others.Given as goal

abbrev pub invariant-loop-writer : goal.invariant-loop-writer
invariant-loop-writer l = (front : List (List (List ℕ))) × (l.fn.records.rows ≡ front ++ l.records.rows)
    × ((text : List ℕ) → HasWritten l.fn.writer text → HasWritten l.writer (text ++ text_of front))

abbrev pub decreases-loop-writer : goal.decreases-loop-writer
decreases-loop-writer l = length l.records.rows
