use Rattle.fp_timers.proofs.Names.{arith, refl, sym, ◌∙◌}
use Rattle.fp_timers.proofs.Times.{first_place}
use Rattle.fp_timers.proofs.timers.any_before.Goals as goal

-- the first is compared
pub returns-in-Some : goal.returns-in-Some
returns-in-Some c = λ not_before. first_place _ c.requires c.args.timer _ (omega (arith, c.args.timers.now.ok.0, c.in-Some.ensures.variant.0 refl)) c.in-Some.ensures.lookup (sym c.is_before.ensures ∙ not_before)
