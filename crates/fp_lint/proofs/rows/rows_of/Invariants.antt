use Rattle.std.proofs.Common.{◌≡◌, ◌++◌, length, map}
use Rattle.csv.specs.Records.{fields_of}
use Rattle.fp_records.specs.File.{records_of}
use Rattle.fp_lint.proofs.rows.rows_of.Given as goal

abbrev pub invariant-loop-fields : goal.invariant-loop-fields
invariant-loop-fields l = map (λ row. fields_of row.fields) l.rows.items ++ l.reader.rows ≡ records_of l.fn.text

abbrev pub decreases-loop-fields : goal.decreases-loop-fields
decreases-loop-fields l = length l.reader.rows
