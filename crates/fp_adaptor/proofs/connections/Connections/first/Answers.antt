use Rattle.std.proofs.Common.{below_more, sym, ◌∙◌}
use Rattle.fp_adaptor.proofs.connections.Connections.first.Goals as goal

pub returns-in-Some : goal.returns-in-Some
returns-in-Some c = (c.loop-unit.unit, sym c.at.ensures ∙ c.in-Some.is, c.loop-unit.invariant)

pub loop-unit-preserved : goal.loop-unit-preserved
loop-unit-preserved c = below_more _ _ c.loop-unit.invariant (sym c.at.ensures ∙ c.in_default.is)
