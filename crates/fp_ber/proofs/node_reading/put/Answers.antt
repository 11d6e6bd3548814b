-- The used places and one more.
use Rattle.std.proofs.Common.{arith}
use Rattle.std.proofs.lemmas.List.{take_more_set}
use Rattle.fp_ber.proofs.node_reading.put.Goals as goal

pub returns-clause-ok : goal.returns-clause-ok
returns-clause-ok c = take_more_set c.args.places.now c.args.used _ (omega arith)
