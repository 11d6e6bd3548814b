use Rattle.fp_ber.proofs.Canonical.{canon_spells}
use Rattle.fp_ber.proofs.laws.canonical_spelling_spells.Goals as goal

pub returns : goal.returns
returns c = canon_spells
