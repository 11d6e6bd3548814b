use Rattle.fp_counters.proofs.Numbers.{counted_both}
use Rattle.fp_counters.proofs.counters.Counters.merge.Goals as goal

pub returns : goal.returns
returns c = λ own others was is. counted_both _ _ _ own others c.add_numbers.ensures was is
