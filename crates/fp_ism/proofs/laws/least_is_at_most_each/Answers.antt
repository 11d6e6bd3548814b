use Rattle.fp_ism.proofs.Least.{least-below}
use Rattle.fp_ism.proofs.laws.least_is_at_most_each.Goals as goal

pub returns : goal.returns
returns c = least-below
