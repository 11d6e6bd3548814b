use Rattle.std.proofs.Common.{ap, ◌∙◌}
use Rattle.std.specs.Prelude.{is_none}
use Rattle.fp_lint.proofs.FieldForms.{none-is, to-form}
use Rattle.fp_lint.proofs.fields.is_to.Goals as goal

pub returns : goal.returns
returns c =
    let early_fault = rw (c.as_slice.ensures, c.rule_of-early.ensures) at c.in_ok-rule_fault.ensures in
    let late_fault = rw (c.as_slice-2.ensures, c.rule_of-late.ensures) at c.in_ok-rule_fault-2.ensures in
    let early = none-is _ c.is_none-is_after_early.result c.is_none-is_after_early.ensures ∙ ap is_none early_fault in
    let late = none-is _ c.is_none-is_after_late.result c.is_none-is_after_late.ensures ∙ ap is_none late_fault in
    rw (early, late) (to-form c.args.text.now)
