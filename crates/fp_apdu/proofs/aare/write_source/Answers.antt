use Rattle.std.proofs.Common.{sym}
use Rattle.fp_ber.specs.Tree.{none, more}
use Rattle.fp_apdu.specs.Aare.{integer}
use Rattle.fp_apdu.specs.Verdict.{diagnostic}
use Rattle.fp_ber.specs.Putting.{alone}
use Rattle.fp_apdu.proofs.aare.write_source.Goals as goal

pub returns-clause-ok : goal.returns-clause-ok
returns-clause-ok c =
    let value = integer (diagnostic c.args.verdict) in
    rw (← c.source.ensures) (c.put_constructed.ensures.ok (more value none) c.args.out.now
    (alone value _ _ (rw c.diagnostic.ensures at c.in_ok-write_integer.ensures.ok)) (sym c.len-behind.ensures.value))
