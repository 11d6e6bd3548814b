use Rattle.std.proofs.Common.{arith, below_more, sym, ◌∙◌}
use Rattle.fp_network.proofs.node.Node.free_place.Goals as goal

pub returns-then-is_free : goal.returns-then-is_free
returns-then-is_free c = (omega arith, sym c.is_free.ensures ∙ c.if-is_free.true)

pub loop-place-preserved : goal.loop-place-preserved
loop-place-preserved c = below_more _ _ c.loop-place.invariant (sym c.is_free.ensures ∙ c.if-is_free.false)

pub returns : goal.returns
returns c = λ place below.
    let past = c.loop-place-test.false in
    c.loop-place.invariant place (omega (arith, below, past))
