use Rattle.fp_hub.specs.Holds.{turn_in}
use Rattle.fp_hub.proofs.Serving.{Serving}
use Rattle.fp_hub.proofs.workers.serve_each.Given as goal

-- this number of turns was served
abbrev pub invariant-loop-count : goal.invariant-loop-count
invariant-loop-count g l = Serving turn_in l._count l.fn.work.items l.work.items
