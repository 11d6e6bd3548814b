-- Other contents are badly made, unless memory ran out.
use Rattle.std.proofs.lemmas.Result.{err_from_is_err_and}
use Rattle.fp_q773.proofs.Faults.{fault_of_begin}
use Rattle.fp_q773.proofs.message.begin_in.Goals as goal

pub returns-in_err-begin-clause-fault : goal.returns-in_err-begin-clause-fault
returns-in_err-begin-clause-fault c =
    let p = err_from_is_err_and c.from_residual.result c.from_residual.ensures.1 in
    rw (p.1, p.2) (fault_of_begin _ _ c.in_err-begin.ensures.fault)
