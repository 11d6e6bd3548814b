use Rattle.std.proofs.Common.{take}
use Rattle.fp_replay.specs.proof_only.Fields.{IsField}
use Rattle.fp_replay.proofs.fields.cut.Given as goal

abbrev pub invariant-loop-place : goal.invariant-loop-place
invariant-loop-place l = IsField (take l.place l.text)
