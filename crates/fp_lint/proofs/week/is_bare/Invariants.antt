use Rattle.std.proofs.Common.{◌≡◌, ◌+◌, ◌/◌, ◌%◌, [], drop}
use Rattle.std.specs.List.{list_any}
use Rattle.fp_records.specs.Choice.{fits}
use Rattle.fp_lint.specs.Week.{rules_of}
use Rattle.fp_lint.proofs.week.is_bare.Given as goal

abbrev pub invariant-loop-rule : goal.invariant-loop-rule
invariant-loop-rule l =
    list_any (fits [] (l.minute / 1440 + 1) (l.minute % 1440)) (rules_of (drop l.rule-index l.rules)) ≡ list_any (fits [] (l.minute / 1440 + 1) (l.minute % 1440)) (rules_of l.rules)
