use Rattle.std.proofs.Common.{◌≡◌, ◌+◌, ◌++◌, drop}
use Rattle.fp_lint.specs.Faults.{items_faults}
use Rattle.fp_lint.specs.Rows.{rows_in, version_if}
use Rattle.fp_lint.proofs.faults.items_faults.Given as goal

abbrev pub invariant-loop-index : goal.invariant-loop-index
invariant-loop-index l =
    l.faults.items ++ items_faults (version_if l.is_two) (l.first + l.index) (rows_in (drop l.index l.rows)) ≡ l.fn.faults.items ++ items_faults (version_if l.is_two) l.first (rows_in l.rows)
