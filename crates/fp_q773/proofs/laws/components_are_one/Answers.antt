-- An element is at most one component.
use Rattle.fp_q773.proofs.Messages.{component_same}
use Rattle.fp_q773.proofs.laws.components_are_one.Goals as goal

pub returns : goal.returns
returns c = component_same
