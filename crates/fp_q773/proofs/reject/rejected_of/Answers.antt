-- What is neither null nor an identifier is neither.
use Rattle.fp_q773.proofs.Fronts.{no_rejected}
use Rattle.fp_q773.proofs.reject.rejected_of.Goals as goal

pub returns-in_default-identifier_of : goal.returns-in_default-identifier_of
returns-in_default-identifier_of c = no_rejected _ c.in_default.ensures c.in_default-identifier_of.ensures
