use Rattle.fp_lint.proofs.OneRecord.{closed-alone}
use Rattle.fp_lint.proofs.alone.closed_fault.Goals as goal

pub returns : goal.returns
returns c =
    let reads = rw (c.as_slice.ensures, c.three_of-fields.ensures) at c.read_with.ensures in
    rw c.reason_of.ensures (closed-alone c.read_with.result c.args.number.now c.args.date.now reads)
