use Rattle.fp_inap.proofs.Arguments.{initial_dp_same}
use Rattle.fp_inap.proofs.laws.initial_dps_are_one.Goals as goal

pub returns : goal.returns
returns c = initial_dp_same
