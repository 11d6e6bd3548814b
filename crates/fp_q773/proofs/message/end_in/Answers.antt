-- Other contents are badly made, unless memory ran out.
use Rattle.std.proofs.lemmas.Result.{err_from_is_err_and}
use Rattle.fp_q773.proofs.Faults.{fault_of_end}
use Rattle.fp_q773.proofs.message.end_in.Goals as goal

pub returns-in_err-end-clause-fault : goal.returns-in_err-end-clause-fault
returns-in_err-end-clause-fault c =
    let p = err_from_is_err_and c.from_residual.result c.from_residual.ensures.1 in
    rw (p.1, p.2) (fault_of_end _ _ c.in_err-end.ensures.fault)
