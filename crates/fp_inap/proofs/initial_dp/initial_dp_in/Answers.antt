use Rattle.fp_inap.proofs.Arguments.{initial_dp_read}
use Rattle.fp_inap.proofs.initial_dp.initial_dp_in.Goals as goal

pub returns-clause-only : goal.returns-clause-only
returns-clause-only c = initial_dp_read _ _ c.initial_dp_of.ensures.ok c.initial_dp_of.ensures.err
