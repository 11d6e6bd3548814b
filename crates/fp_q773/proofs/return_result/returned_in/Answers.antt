-- What holds no code returns nothing.
use Rattle.fp_q773.proofs.Fronts.{no_returned}
use Rattle.fp_q773.proofs.return_result.returned_in.Goals as goal

pub returns-clause-none : goal.returns-clause-none
returns-clause-none c = no_returned _ _ _ c.in-Some.ensures c.read.ensures.none
