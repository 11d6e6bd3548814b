use Rattle.fp_apdu.proofs.Openings.{opening_same}
use Rattle.fp_apdu.proofs.laws.openings_are_one.Goals as goal

pub returns : goal.returns
returns c = opening_same
