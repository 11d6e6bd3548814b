use Rattle.fp_ber.proofs.Canonical.{lengths_are_shortest}
use Rattle.fp_ber.proofs.laws.canonical_lengths_are_shortest.Goals as goal

pub returns : goal.returns
returns c = lengths_are_shortest
