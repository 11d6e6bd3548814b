use Rattle.std.proofs.Common.{◌∙◌}
use Rattle.fp_lint.proofs.FieldForms.{none-is}
use Rattle.fp_lint.proofs.OneRecord.{head-alone}
use Rattle.fp_lint.proofs.alone.is_head.Goals as goal

pub returns : goal.returns
returns c =
    let reads = rw (c.as_slice.ensures, c.three_of-fields.ensures) at c.read_with.ensures in
    let said = rw (← c.reason_of.ensures, c.in_ok-fault.was) at (head-alone c.read_with.result c.args.name.now c.args.key.now c.args.offset.now reads) in
    none-is _ c.is_none.result c.is_none.ensures ∙ said
