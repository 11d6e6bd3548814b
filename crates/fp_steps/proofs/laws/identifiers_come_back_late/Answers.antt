use Rattle.fp_steps.proofs.ComeBack.{come_back_late}
use Rattle.fp_steps.proofs.laws.identifiers_come_back_late.Goals as goal

pub returns : goal.returns
returns c = come_back_late
