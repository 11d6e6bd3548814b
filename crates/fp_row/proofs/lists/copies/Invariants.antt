-- The copies so far.
use Rattle.std.proofs.Common.{◌≡◌, take}
use Rattle.fp_row.proofs.lists.copies.Given as goal

abbrev pub invariant-entries : goal.invariant-entries
invariant-entries l = l.copy ≡ take l.entry-index l.entries
