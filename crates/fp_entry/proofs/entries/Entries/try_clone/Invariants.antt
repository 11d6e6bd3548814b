-- The entries so far.
use Rattle.std.proofs.Common.{◌≡◌, take}
use Rattle.fp_entry.proofs.entries.Entries.try_clone.Given as goal

abbrev pub invariant-entries : goal.invariant-entries
invariant-entries l = l.copy ≡ take l.entry-index l.self
