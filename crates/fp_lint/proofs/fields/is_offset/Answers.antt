use Rattle.fp_lint.proofs.FieldForms.{offset-form}
use Rattle.fp_lint.proofs.fields.is_offset.Goals as goal

pub returns : goal.returns
returns c = rw (← offset-form c.args.text.now) c.is_head.ensures
