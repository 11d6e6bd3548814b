-- A dialogue that is over stays over.
use Rattle.fp_service.proofs.Folding.{stays_over}
use Rattle.fp_service.proofs.laws.over_stays_over.Goals as goal

pub returns : goal.returns
returns c = stays_over
