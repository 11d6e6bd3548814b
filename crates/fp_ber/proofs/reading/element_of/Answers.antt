-- What was read is all of the octets; a fault is one of the element, or what stands behind it.
use Rattle.std.proofs.Common.{inl, rules, tests}
use Rattle.std.proofs.lemmas.Result.{err_from_is_err_and}
use Rattle.fp_ber.proofs.Parts.{is_whole}
use Rattle.fp_ber.proofs.reading.element_of.Goals as goal

pub returns-in_err-element-clause-fault : goal.returns-in_err-element-clause-fault
returns-in_err-element-clause-fault c =
    let p = err_from_is_err_and c.from_residual.result c.from_residual.ensures.1 in
    rw (p.1, p.2) (λ memory. inl (c.in_err-element.ensures.err memory))

pub returns-clause-found : goal.returns-clause-found
returns-clause-found c =
    is_whole c.args.octets.now c.in_ok-element.rest.now _ c.in_ok-element.ensures.ok (search (rules, tests))
