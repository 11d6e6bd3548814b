use Rattle.fp_page.proofs.Escapes.{one, unmarked}
use Rattle.fp_page.proofs.escaping.escapes_mark_nothing.Goals as goal

pub returns-clause-marks : goal.returns-clause-marks
returns-clause-marks c = unmarked

pub returns-clause-one : goal.returns-clause-one
returns-clause-one c = one
