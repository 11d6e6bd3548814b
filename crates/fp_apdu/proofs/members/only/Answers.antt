use Rattle.fp_ber.specs.Lent.{lent_trees}
use Rattle.fp_apdu.proofs.Forests.{some_behind}
use Rattle.fp_apdu.proofs.members.only.Goals as goal

pub returns-then-not-is_empty : goal.returns-then-not-is_empty
returns-then-not-is_empty c = λ t h. some_behind (lent_trees c.in_ok-split.split.rest) c.if-not-is_empty.ensures (cc (c.in_ok-split.ensures, h))
