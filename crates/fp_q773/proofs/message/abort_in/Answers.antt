-- Other contents are badly made.
use Rattle.fp_q773.proofs.Faults.{badly_abort}
use Rattle.fp_q773.proofs.message.abort_in.Goals as goal

pub returns-in_default-clause-fault : goal.returns-in_default-clause-fault
returns-in_default-clause-fault c = λ memory. badly_abort _ c.in_default.ensures.none
