use Rattle.fp_lint.proofs.FieldForms.{name-form}
use Rattle.fp_lint.proofs.fields.is_head_name.Goals as goal

pub returns : goal.returns
returns c = rw (← name-form c.args.text.now) c.is_head.ensures
