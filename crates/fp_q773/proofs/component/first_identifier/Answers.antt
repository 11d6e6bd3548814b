-- The first element is no identifier.
use Rattle.fp_q773.proofs.Fronts.{no_identifier}
use Rattle.fp_q773.proofs.component.first_identifier.Goals as goal

pub returns-in_default-identifier_of : goal.returns-in_default-identifier_of
returns-in_default-identifier_of c = no_identifier _ _ _ c.in-Some.ensures c.in_default-identifier_of.ensures
