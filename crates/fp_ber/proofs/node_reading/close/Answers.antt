-- The node at the place has all used ones after it below it.
use Rattle.fp_ber.proofs.Placed.{closed}
use Rattle.fp_ber.proofs.node_reading.close.Goals as goal

pub returns-clause-closes : goal.returns-clause-closes
returns-clause-closes c =
    closed _ _ c.args.place c.args.used c.args.places.now c.constructed.result c.requires.place c.requires.used c.constructed.ensures
