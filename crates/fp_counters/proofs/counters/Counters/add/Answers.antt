use Rattle.fp_counters.proofs.Numbers.{counted_more}
use Rattle.fp_counters.proofs.counters.Counters.add.Goals as goal

pub returns : goal.returns
returns c = λ events was. counted_more _ _ events c.args.counter c.args.amount c.raise.ensures was
