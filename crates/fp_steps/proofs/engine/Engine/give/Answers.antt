use Rattle.fp_steps.proofs.Names.{Turn, ap, arith, false≢true, refl, sym, ◌∙◌}
use Rattle.fp_book.proofs.Kept.{out_few}
use Rattle.fp_steps.proofs.TokensKept.{holds_gives, holds_puts_back, none_kept, taken_out}
use Rattle.fp_steps.proofs.engine.Engine.give.Goals as goal

pub returns-in-Ok-give-clause-makes : goal.returns-in-Ok-give-clause-makes
returns-in-Ok-give-clause-makes c = (
  refl,
  (c.in-Ok.done, ap (λ (t : Turn). t.local) c.in-Ok.ensures.turn ∙ c.in-Some.ensures.local_is, sym (c.position-position.ensures ∙ ap (λ (t : Turn). t.position) c.turn.ensures), sym c.served-served.ensures, c.in-Ok-give.ensures.ok),
)

-- no more than the entries that were out, which have a place each
pub overflow_cast-result : goal.overflow_cast-result
overflow_cast-result c =
    let g = c.in-Ok-give.ensures.ok in
    omega (arith, c.served-served.ensures, g.gives.few_served, out_few _ _ g.before c.requires.sound g.was)

pub returns-in_default-clause-makes : goal.returns-in_default-clause-makes
returns-in_default-clause-makes c = (none_kept _ _ c.requires.holds c.in_default.ensures, refl)

pub returns-in-Ok-give-clause-holds : goal.returns-in-Ok-give-clause-holds
returns-in-Ok-give-clause-holds c = holds_gives _ (taken_out _ c.requires.holds c.in-Some.ensures c.in-Ok.ensures.turn) c.requires.holds.parcel_is c.in-Ok-give.ensures.ok

pub returns-in-Err-give-clause-makes : goal.returns-in-Err-give-clause-makes
returns-in-Err-give-clause-makes c = absurd (false≢true (c.in-Err-give.ensures.known.1 (taken_out _ c.requires.holds c.in-Some.ensures c.in-Ok.ensures.turn).is))

pub returns-in-Err-give-clause-holds : goal.returns-in-Err-give-clause-holds
returns-in-Err-give-clause-holds c = absurd (false≢true (c.in-Err-give.ensures.known.1 (taken_out _ c.requires.holds c.in-Some.ensures c.in-Ok.ensures.turn).is))

pub give_up-requires : goal.give_up-requires
give_up-requires c = (taken_out _ c.requires.holds c.in-Some.ensures c.in-Err.ensures.same).is

pub returns-in-Err-clause-holds : goal.returns-in-Err-clause-holds
returns-in-Err-clause-holds c = holds_puts_back _ (taken_out _ c.requires.holds c.in-Some.ensures c.in-Err.ensures.same) c.requires.holds.parcel_is c.give_up.ensures.puts
