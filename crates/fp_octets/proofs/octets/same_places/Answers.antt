use Rattle.std.proofs.Common.{arith}
use Rattle.std.proofs.lemmas.List.{take_all}
use Rattle.fp_octets.proofs.Same.{one_more}
use Rattle.fp_octets.proofs.octets.same_places.Goals as goal

pub loop-at-preserved : goal.loop-at-preserved
loop-at-preserved g c =
    rw c.loop-at.invariant
    (one_more c.loop-at.at c.args.a.now c.args.b.now (omega (arith, c.told-a, c.loop-at-test.true)) (omega (arith, c.told-b, c.loop-at-test.true)))

pub returns : goal.returns
returns g c =
    rw (
      ← take_all c.loop-at.at c.args.a.now (omega (arith, c.told-a, c.loop-at-test.false)),
      ← take_all c.loop-at.at c.args.b.now (omega (arith, c.told-b, c.loop-at-test.false)),
    )
    c.loop-at.invariant
