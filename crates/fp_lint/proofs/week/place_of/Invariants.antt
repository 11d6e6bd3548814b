use Rattle.std.proofs.Common.{◌≡◌, drop}
use Rattle.fp_lint.specs.Week.{has_same}
use Rattle.fp_lint.proofs.week.place_of.Given as goal

abbrev pub invariant-loop-place : goal.invariant-loop-place
invariant-loop-place l = has_same (drop l.place l.rules) l.kept ≡ has_same l.rules l.kept
