-- The entries that are served are the first ones.
use Rattle.fp_service.proofs.Folding.{cut_is_front}
use Rattle.fp_service.proofs.laws.cut_is_a_front.Goals as goal

pub returns : goal.returns
returns c = cut_is_front
