use Rattle.fp_linkio.proofs.Going.{hands_quietly}
use Rattle.fp_linkio.proofs.receiving.hand_on.Goals as goal

pub returns : goal.returns
returns g c = hands_quietly _ _ _ _ _ _ c.hand_on_each-handed_on.ensures c.end_of_read.ensures
