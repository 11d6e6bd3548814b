use Rattle.std.proofs.Common.{below_more, sym, ◌∙◌}
use Rattle.fp_lint.proofs.week.first_bare.Goals as goal

pub loop-minute-preserved : goal.loop-minute-preserved
loop-minute-preserved c = below_more _ _ c.loop-minute.invariant (sym c.is_bare.ensures ∙ c.if-is_bare.false)

pub returns-then-is_bare : goal.returns-then-is_bare
returns-then-is_bare c = record { within = c.loop-minute-test.true; bare = sym c.is_bare.ensures ∙ c.if-is_bare.true; before = c.loop-minute.invariant }
