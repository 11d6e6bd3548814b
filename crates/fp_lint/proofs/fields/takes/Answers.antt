use Rattle.std.proofs.Common.{◌≡◌, ap, arith, ◌∙◌}
use Rattle.std.specs.Prelude.{is_none}
use Rattle.fp_lint.proofs.FieldForms.{count-form, none-is}
use Rattle.fp_lint.proofs.fields.takes.Goals as goal

pub returns : goal.returns
returns c =
    let all : c.loop-done._done ≡ c.args.count = omega (arith, c.loop-done-test.false, c.loop-done.auto._done-end) in
    let fault = rw (c.as_slice-2.ensures.value, c.loop-done.invariant, all) at c.in_ok-rule_fault.ensures in
    none-is _ c.is_none.result c.is_none.ensures ∙ ap is_none fault ∙ count-form c.args.action.now c.args.count
