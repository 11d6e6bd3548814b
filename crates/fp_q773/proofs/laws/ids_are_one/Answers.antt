-- Octets tell one kind and one identifier of each sort.
use Rattle.fp_q773.proofs.Standing as standing
use Rattle.fp_q773.proofs.laws.ids_are_one.Goals as goal

pub returns : goal.returns
returns c = standing.ids_are_one c.no_spelling_begins_another.ensures
