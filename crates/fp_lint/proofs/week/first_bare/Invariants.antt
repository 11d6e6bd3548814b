use Rattle.std.proofs.Common.{◌≡◌, ◌<◌, ℕ, false}
use Rattle.fp_lint.specs.Week.{is_bare, rules_of}
use Rattle.fp_lint.proofs.week.first_bare.Given as goal

abbrev pub invariant-loop-minute : goal.invariant-loop-minute
invariant-loop-minute l = (minute : ℕ) → minute < l.minute → is_bare (rules_of l.rules) minute ≡ false
