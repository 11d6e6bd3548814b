use Rattle.fp_timers.proofs.Names.{refl, sym, ◌∙◌}
use Rattle.fp_timers.proofs.Times.{last_place}
use Rattle.fp_timers.proofs.timers.comes_last.Goals as goal

-- the last is compared
pub returns-in-Some : goal.returns-in-Some
returns-in-Some c = λ before. last_place _ c.requires c.args.timer _ _ c.args.timers.now.ok.0 (c.in-Some.ensures.variant.0 refl) c.in-Some.ensures.lookup (sym c.is_before.ensures ∙ before)
