use Rattle.std.proofs.Common.{sym, ◌∙◌}
use Rattle.fp_network.proofs.Arriving.{arrives_slow, arrives_stepped}
use Rattle.fp_network.proofs.Waits.{longer_by, longer_same}
use Rattle.fp_network.proofs.connection.Connection.arrival.Goals as goal

pub returns-then-is_slow-clause-longer : goal.returns-then-is_slow-clause-longer
returns-then-is_slow-clause-longer c = longer_same _

pub returns-then-is_slow-clause-arrives : goal.returns-then-is_slow-clause-arrives
returns-then-is_slow-clause-arrives c =
    arrives_slow c.args.names.now c.args.drains c.args.stream c.args.octets.now c.args.self.now (sym c.is_slow.ensures ∙ c.if-is_slow.true)

pub returns-clause-longer : goal.returns-clause-longer
returns-clause-longer c = longer_by _ _ _ c.in_ok-arrival.ensures.stepped.writes

pub returns-clause-arrives : goal.returns-clause-arrives
returns-clause-arrives c =
    arrives_stepped c.args.names.now c.args.drains c.args.stream c.args.octets.now c.args.self.now _ _
    (sym c.is_slow.ensures ∙ c.if-is_slow.false) c.in_ok-arrival.ensures.stepped
