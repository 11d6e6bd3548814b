-- A fault of the text is that of its records; and text that was migrated has none.
use Rattle.std.proofs.Common.{ap, inr}
use Rattle.std.proofs.lemmas.Result.{err_from_is_err_and}
use Rattle.scp.proofs.Faults.{of_records}
use Rattle.scp.specs.declared.fault.RunFault.TheVariants.{Records}
use Rattle.scp.proofs.migrate.migrate.Goals as goal

pub returns-in_err-migrate-clause-file : goal.returns-in_err-migrate-clause-file
returns-in_err-migrate-clause-file g c file is =
    let p = err_from_is_err_and c.from_residual.result c.from_residual.ensures.1 in
    rw (p.1, p.2) (inr (ap Records (c.in_err-migrate.ensures.file file is)))

pub returns-in_err-migrate-clause-fault : goal.returns-in_err-migrate-clause-fault
returns-in_err-migrate-clause-fault g c at reason first =
    let p = err_from_is_err_and c.from_residual.result c.from_residual.ensures.1 in
    rw (p.1, p.2) (of_records _ at reason (c.in_err-migrate.ensures.fault at reason first))

pub returns-in_err-write_octets-clause-fault : goal.returns-in_err-write_octets-clause-fault
returns-in_err-write_octets-clause-fault g c at reason first = absurd (c.in_ok-migrate.ensures.fault at reason first)
