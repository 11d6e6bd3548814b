use Rattle.std.proofs.Common.{ap, ◌∙◌}
use Rattle.std.specs.Prelude.{is_none}
use Rattle.fp_lint.proofs.FieldForms.{closed_number-form, none-is}
use Rattle.fp_lint.proofs.fields.is_closed_number.Goals as goal

pub returns : goal.returns
returns c = none-is _ c.is_none.result c.is_none.ensures ∙ ap is_none c.in_ok-closed_fault.ensures ∙ closed_number-form c.args.text.now
