use Rattle.std.proofs.Common.{◌∙◌}
use Rattle.fp_records.proofs.Codes.{code_order}
use Rattle.fp_records.proofs.number_key.NumberKeyOrd.cmp.Goals as goal

pub returns : goal.returns
returns c =
    let order = rw (c.code.ensures.value, c.code-2.ensures.value) at c.order_of.ensures in
    order ∙ code_order 15 c.args.self.now c.args.other.now c.code.ensures.digits c.code-2.ensures.digits
