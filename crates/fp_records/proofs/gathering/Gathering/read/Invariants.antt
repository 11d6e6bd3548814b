use Rattle.std.proofs.Common.{ℕ, List, length}
use Rattle.fp_records.specs.declared.item.Item.{Item}
use Rattle.fp_records.proofs.Gathered.{SoFar}
use Rattle.fp_records.proofs.gathering.Gathering.read.Given as goal

abbrev pub invariant-loop-gathering : goal.invariant-loop-gathering
invariant-loop-gathering l = (front : List (List (List ℕ))) × (before : List Item) × SoFar l.version l.fn.records l.records l.gathering front before

abbrev pub decreases-loop-gathering : goal.decreases-loop-gathering
decreases-loop-gathering l = length l.records.rows
