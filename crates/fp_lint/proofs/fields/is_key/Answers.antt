use Rattle.fp_lint.proofs.FieldForms.{key-form}
use Rattle.fp_lint.proofs.fields.is_key.Goals as goal

pub returns : goal.returns
returns c = rw (← key-form c.args.text.now) c.is_head.ensures
