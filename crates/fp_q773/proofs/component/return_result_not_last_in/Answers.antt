-- Other contents make a mistyped component.
use Rattle.fp_q773.proofs.Rows.{mistyped_return_result_not_last}
use Rattle.fp_q773.proofs.component.return_result_not_last_in.Goals as goal

pub returns-in_default-clause-found : goal.returns-in_default-clause-found
returns-in_default-clause-found c = mistyped_return_result_not_last _ _ c.in_default.ensures.none c.mistyped.ensures.found
