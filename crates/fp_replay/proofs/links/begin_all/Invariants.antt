use Rattle.fp_replay.specs.proof_only.Making.{AreNew}
use Rattle.fp_replay.proofs.links.begin_all.Given as goal

abbrev pub invariant-loop-link : goal.invariant-loop-link
invariant-loop-link l = AreNew l.link l.tag l.runs.items
