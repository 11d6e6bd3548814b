use Rattle.std.proofs.Common.{ap, ◌∙◌}
use Rattle.std.specs.Prelude.{is_none}
use Rattle.fp_lint.proofs.FieldForms.{none-is, prefix-form}
use Rattle.fp_lint.proofs.fields.is_prefix.Goals as goal

pub returns : goal.returns
returns c =
    let fault = rw (c.as_slice.ensures, c.rule_of-rule.ensures) at c.in_ok-rule_fault.ensures in
    none-is _ c.is_none.result c.is_none.ensures ∙ ap is_none fault ∙ prefix-form c.args.text.now
