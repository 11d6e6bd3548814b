use Rattle.std.proofs.Common.{refl}
use Rattle.fp_network.proofs.Tallied.{counts_none}
use Rattle.fp_network.proofs.Way.{way_spared}
use Rattle.fp_network.proofs.node.Node.make_way_for.Goals as goal

pub returns-then-octets-gt-MOST_DATA-clause-ended : goal.returns-then-octets-gt-MOST_DATA-clause-ended
returns-then-octets-gt-MOST_DATA-clause-ended c = way_spared c.args.frame.now c.args.self.now

pub returns-then-octets-gt-MOST_DATA-clause-counted : goal.returns-then-octets-gt-MOST_DATA-clause-counted
returns-then-octets-gt-MOST_DATA-clause-counted c = counts_none _ _ refl refl refl

pub returns-clause-way : goal.returns-clause-way
returns-clause-way c setting history later fits = c.make_way.ensures.way setting history later
