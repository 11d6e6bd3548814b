use Rattle.fp_records.specs.Fields.{verb_of}
use Rattle.fp_lint.proofs.FieldForms.{action-form}
use Rattle.fp_lint.proofs.fields.is_action.Goals as goal

pub returns : goal.returns
returns c = rw (c.in_ok-is_alone.ensures, c.in_ok-is_routed.ensures) (action-form (verb_of c.args.text.now))
