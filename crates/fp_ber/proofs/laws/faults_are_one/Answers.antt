use Rattle.fp_ber.proofs.Exclusive.{one_fault}
use Rattle.fp_ber.proofs.laws.faults_are_one.Goals as goal

pub returns : goal.returns
returns c = one_fault
