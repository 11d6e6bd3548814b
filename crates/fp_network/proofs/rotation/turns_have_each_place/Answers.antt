use Rattle.fp_network.proofs.Turns.{each_once}
use Rattle.fp_network.proofs.rotation.turns_have_each_place.Goals as goal

pub returns : goal.returns
returns c = each_once
