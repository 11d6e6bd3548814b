use Rattle.std.proofs.Common.{ℕ, ◌<◌, ◌-◌, ◌∷◌, ◌++◌, [], length}
use Rattle.fp_lint.specs.Reach.{AllTaken}
use Rattle.fp_lint.specs.Week.{rules_of}
use Rattle.fp_lint.proofs.reach.+takes_each.Given as goal

abbrev pub decreases-takes_each : goal.decreases-takes_each
decreases-takes_each l = 15 - length l.calling

abbrev pub invariant-loop-digit : goal.invariant-loop-digit
invariant-loop-digit l = (digit : ℕ) → digit < l.digit → AllTaken (rules_of l.rules) l.longer l.minute (l.calling ++ digit ∷ [])
