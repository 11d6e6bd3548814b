-- What is served of the entries is what was, and what is of those from here on.
use Rattle.std.proofs.Common.{◌≡◌, drop}
use Rattle.fp_row.specs.proof_only.Serving.{Goes}
use Rattle.fp_row.proofs.serving.Steps.serve_all.Given as goal

abbrev pub invariant-loop-entry : goal.invariant-loop-entry
invariant-loop-entry l =
    (l.self.served ≡ l.entry-index) × Goes l.local l.peer l.fn.core l.entries l.self l.core (drop l.entry-index l.entries)
