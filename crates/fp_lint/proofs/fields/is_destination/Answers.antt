use Rattle.std.proofs.Common.{ap, ◌∙◌}
use Rattle.std.specs.Prelude.{is_none}
use Rattle.fp_lint.proofs.FieldForms.{destination-form, none-is}
use Rattle.fp_lint.proofs.fields.is_destination.Goals as goal

pub returns : goal.returns
returns c =
    let fault = rw (c.as_slice.ensures, c.routed-rule.ensures) at c.in_ok-rule_fault.ensures in
    none-is _ c.is_none.result c.is_none.ensures ∙ ap is_none fault ∙ destination-form c.args.text.now
