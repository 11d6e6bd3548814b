use Rattle.fp_ber.proofs.Unique as unique
use Rattle.fp_ber.proofs.laws.no_spelling_begins_another.Goals as goal

pub returns : goal.returns
returns c = unique.no_spelling_begins_another
