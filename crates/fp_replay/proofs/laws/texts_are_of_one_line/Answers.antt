use Rattle.fp_replay.proofs.Lines.{one_line}
use Rattle.fp_replay.proofs.laws.texts_are_of_one_line.Goals as goal

pub returns : goal.returns
returns c = one_line
