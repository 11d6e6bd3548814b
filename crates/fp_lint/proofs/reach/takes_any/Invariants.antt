use Rattle.std.proofs.Common.{◌≡◌, drop}
use Rattle.fp_lint.specs.Reach.{takes_any}
use Rattle.fp_lint.specs.Week.{rules_of}
use Rattle.fp_lint.proofs.reach.takes_any.Given as goal

abbrev pub invariant-loop-kept : goal.invariant-loop-kept
invariant-loop-kept l = takes_any (rules_of (drop l.kept-index l.rules)) l.longer l.minute l.calling ≡ takes_any (rules_of l.rules) l.longer l.minute l.calling
