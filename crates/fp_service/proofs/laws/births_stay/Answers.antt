-- A step keeps the birth of a core.
use Rattle.fp_service.proofs.Births.{births_stay}
use Rattle.fp_service.proofs.laws.births_stay.Goals as goal

pub returns : goal.returns
returns c = births_stay
