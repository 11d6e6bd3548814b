use Rattle.std.proofs.Common.{length}
use Rattle.fp_network.specs.Changes.{draining}
use Rattle.fp_network.specs.Connection.{is_of_common}
use Rattle.fp_network.proofs.Keeping.{keeps_each, over_drained}
use Rattle.fp_network.proofs.node.Node.drain.Goals as goal

pub returns-clause-tied : goal.returns-clause-tied
returns-clause-tied c =
    let drain = c.drain_places.ensures in
    keeps_each (draining (length c.args.self.now.names.items) c.args.at)
    (λ own. over_drained (is_of_common (length c.args.self.now.names.items) own.state) c.args.at own.course)
    c.args.self.now c.drain_places.new.self drain.adaptor drain.each
