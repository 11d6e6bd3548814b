-- The folds along a list followed by another.
use Rattle.fp_service.proofs.Folding.{folds_grow, folds_grow_by_one}
use Rattle.fp_service.proofs.laws.folds_along_a_grown_list.Goals as goal

pub returns-clause-both : goal.returns-clause-both
returns-clause-both c = folds_grow

pub returns-clause-one : goal.returns-clause-one
returns-clause-one c = folds_grow_by_one
