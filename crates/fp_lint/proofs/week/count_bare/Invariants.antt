use Rattle.std.proofs.Common.{◌≡◌, ◌≤◌}
use Rattle.fp_lint.specs.Week.{count_below, is_bare, rules_of}
use Rattle.fp_lint.proofs.week.count_bare.Given as goal

abbrev pub invariant-loop-minute : goal.invariant-loop-minute
invariant-loop-minute l = record {
  count : l.count ≡ count_below (is_bare (rules_of l.rules)) l.minute;
  low : l.count ≤ l.minute;
  within : l.minute ≤ 10080;
}
