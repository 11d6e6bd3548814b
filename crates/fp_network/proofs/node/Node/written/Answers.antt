use Rattle.std.proofs.Common.{refl}
use Rattle.fp_network.specs.Changes.{writing}
use Rattle.fp_network.proofs.Keeping.{keeps_at}
use Rattle.fp_network.proofs.node.Node.written.Goals as goal

pub returns-clause-tied : goal.returns-clause-tied
returns-clause-tied c =
    let removed = c.remove_waiting.ensures in
    keeps_at (writing c.args.count) (λ own. refl) c.args.place c.args.self.now c.remove_waiting.new.self removed.adaptor removed.here removed.others
