use Rattle.fp_tids.proofs.Serials.{come_back_last}
use Rattle.fp_tids.proofs.laws.serials_come_back_last.Goals as goal

pub returns : goal.returns
returns c = come_back_last
