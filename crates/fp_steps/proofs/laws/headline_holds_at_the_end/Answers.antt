use Rattle.fp_steps.proofs.RunsSoFar.{headline_holds}
use Rattle.fp_steps.proofs.laws.headline_holds_at_the_end.Goals as goal

pub returns : goal.returns
returns c = headline_holds
