-- What stands behind the dialogue portion is no component portion.
use Rattle.std.proofs.lemmas.Result.{err_from_is_err_and}
use Rattle.fp_q773.proofs.Parts.{no_portions}
use Rattle.fp_q773.proofs.portions.Portions.read.Goals as goal

pub returns-in_err-components-clause-fault : goal.returns-in_err-components-clause-fault
returns-in_err-components-clause-fault c =
    let p = err_from_is_err_and c.from_residual.result c.from_residual.ensures.1 in
    let taken = c.dialogue_at-dialogue in
    rw (p.1, p.2) (no_portions _ taken.result.element _ _ taken.ensures.some taken.ensures.none c.in_err-components.ensures.fault)
