use Rattle.fp_steps.proofs.OneAnswer.{runs_one}
use Rattle.fp_steps.proofs.laws.runs_are_one.Goals as goal

pub returns : goal.returns
returns c = runs_one c.prepared_is_one.ensures
