-- Other contents make a mistyped component.
use Rattle.fp_q773.proofs.Rows.{mistyped_reject}
use Rattle.fp_q773.proofs.component.reject_in.Goals as goal

pub returns-in_default-clause-found : goal.returns-in_default-clause-found
returns-in_default-clause-found c = mistyped_reject _ _ c.in_default.ensures.none c.mistyped.ensures.found
