use Rattle.fp_tids.proofs.Serials.{all_are, giving_leaves, returning_keeps}
use Rattle.fp_tids.proofs.laws.serials_are_distinct.Goals as goal

pub returns : goal.returns
returns c = record { all = all_are; gives = giving_leaves; ends = returning_keeps }
