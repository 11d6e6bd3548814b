use Rattle.std.proofs.Common.{sym}
use Rattle.fp_ber.specs.Tree.{none, more}
use Rattle.fp_apdu.specs.Aare.{integer}
use Rattle.fp_apdu.specs.Verdict.{associate_result}
use Rattle.fp_ber.specs.Putting.{alone}
use Rattle.fp_apdu.proofs.aare.write_result.Goals as goal

pub returns-clause-ok : goal.returns-clause-ok
returns-clause-ok c =
    let value = integer (associate_result c.args.verdict) in
    c.put_constructed.ensures.ok (more value none) c.args.out.now
    (alone value _ _ (rw c.result.ensures at c.in_ok-write_integer.ensures.ok)) (sym c.len-behind.ensures.value)
