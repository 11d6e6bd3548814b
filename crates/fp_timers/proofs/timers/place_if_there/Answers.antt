use Rattle.fp_timers.proofs.Names.{false, sym, true, ◌∙◌, ◌≡◌}
use Rattle.fp_timers.proofs.Times.{nowhere}
use Rattle.fp_timers.proofs.timers.place_if_there.Goals as goal

-- it isn't at the place where it would be
pub returns-clause-missing : goal.returns-clause-missing
returns-clause-missing c = λ _. nowhere _ c.requires c.args.timer _ c.place_in_time-place.ensures (λ at. absurd (let clash : false ≡ true = sym c.if-is_at-2.false ∙ c.is_at-2.ensures.1 at in cc))
