use Rattle.fp_steps.proofs.Names.{false≢true, refl}
use Rattle.fp_steps.proofs.TokensKept.{holds_puts_back, none_kept, taken_out}
use Rattle.fp_steps.proofs.engine.Engine.put_back.Goals as goal

pub returns-in-Ok-clause-makes : goal.returns-in-Ok-clause-makes
returns-in-Ok-clause-makes c = (c.in-Some.turn, c.in-Some.ensures.local_is, c.in-Ok.ensures.ok)

pub returns-in_default-clause-makes : goal.returns-in_default-clause-makes
returns-in_default-clause-makes c = (none_kept _ _ c.requires.holds c.in_default.ensures, refl)

pub returns-in-Ok-clause-holds : goal.returns-in-Ok-clause-holds
returns-in-Ok-clause-holds c = holds_puts_back _ (taken_out _ c.requires.holds c.in-Some.ensures refl) c.requires.holds.parcel_is c.in-Ok.ensures.ok

pub returns-in-Err-clause-makes : goal.returns-in-Err-clause-makes
returns-in-Err-clause-makes c = absurd (false≢true (c.in-Err.ensures.known.1 (taken_out _ c.requires.holds c.in-Some.ensures refl).is))

pub returns-in-Err-clause-holds : goal.returns-in-Err-clause-holds
returns-in-Err-clause-holds c = absurd (false≢true (c.in-Err.ensures.known.1 (taken_out _ c.requires.holds c.in-Some.ensures refl).is))
