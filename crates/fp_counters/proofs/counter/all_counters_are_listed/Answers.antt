use Rattle.fp_counters.proofs.Listed.{listed}
use Rattle.fp_counters.proofs.counter.all_counters_are_listed.Goals as goal

pub returns : goal.returns
returns c = listed
