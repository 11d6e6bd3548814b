use Rattle.std.proofs.Common.{◌≡◌, ◌++◌, [], codes, replicate}
use Rattle.fp_lint.specs.Alone.{texts}
use Rattle.fp_lint.proofs.FieldForms.{rule_with}
use Rattle.fp_lint.proofs.fields.takes.Given as goal

abbrev pub invariant-loop-done : goal.invariant-loop-done
invariant-loop-done l =
    texts l.fields.items ≡ rule_with (codes "1") [] (codes "1") (codes "00:00") (codes "24:00") (codes "1") l.fn.action ++ replicate l._done (codes "1")
