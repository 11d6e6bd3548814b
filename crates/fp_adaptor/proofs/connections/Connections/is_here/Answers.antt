use Rattle.std.proofs.Common.{arith, below_more, refl, sym, ◌∙◌}
use Rattle.std.proofs.lemmas.Bool.{false≢true}
use Rattle.fp_adaptor.proofs.Places.{within}
use Rattle.fp_adaptor.proofs.connections.Connections.is_here.Goals as goal

pub returns-then-is_this : goal.returns-then-is_this
returns-then-is_this c = (λ e. (c.loop-unit.unit, sym c.at.ensures ∙ c.is_this.ensures.0 c.if-is_this.true), λ here. refl)

pub loop-unit-preserved : goal.loop-unit-preserved
loop-unit-preserved c = below_more _ _ c.loop-unit.invariant (λ is. false≢true (sym c.if-is_this.false ∙ c.is_this.ensures.1 (c.at.ensures ∙ is)))

pub returns : goal.returns
returns c = (
  λ e. absurd (false≢true e),
  λ here.
      let inside = within _ here.0 _ here.1 in
      let past = c.loop-unit-test.false in
      absurd (c.loop-unit.invariant here.0 (omega (arith, inside, past)) here.1),
)
