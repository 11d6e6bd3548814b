-- The first element is no linked identifier.
use Rattle.std.proofs.Common.{refl}
use Rattle.fp_q773.proofs.Fronts.{no_linked}
use Rattle.fp_q773.proofs.invoke.linked_at.Goals as goal

pub returns-in_default-linked_of-clause-none : goal.returns-in_default-linked_of-clause-none
returns-in_default-linked_of-clause-none c = (refl, no_linked _ _ _ c.in-Some.ensures c.in_default-linked_of.ensures)
