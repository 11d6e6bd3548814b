use Rattle.fp_ipa.proofs.UnitNames.{unit_names_are_one}
use Rattle.fp_ipa.proofs.laws.unit_names_are_one.Goals as goal

pub returns : goal.returns
returns c = unit_names_are_one
