use Rattle.fp_tids.specs.Identifiers.{AreSerials}
use Rattle.cases_calls.proofs.deadlines.of_turns.Given as goal

-- no serial is free twice
abbrev pub invariant-loop : goal.invariant-loop
invariant-loop l = AreSerials l.ids.queue
