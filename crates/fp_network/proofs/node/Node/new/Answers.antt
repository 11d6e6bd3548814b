use Rattle.std.proofs.lemmas.Option.{none-some}
use Rattle.fp_network.proofs.node.Node.new.Goals as goal

pub returns-clause-tied : goal.returns-clause-tied
returns-clause-tied c = λ unit place is. absurd (none-some _ is)
