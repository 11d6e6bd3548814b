use Rattle.std.proofs.Common.{◌<◌, ℕ}
use Rattle.fp_lint.specs.Reach.{IsTakenAt}
use Rattle.fp_lint.specs.Week.{rule_of, rules_of}
use Rattle.fp_lint.proofs.reach.is_taken.Given as goal

abbrev pub invariant-loop-minute : goal.invariant-loop-minute
invariant-loop-minute l = (minute : ℕ) → minute < l.minute → IsTakenAt (rules_of l.rules) (rule_of l.kept) minute
