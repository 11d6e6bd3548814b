-- What was read is what the octets spell, or their fault.
use Rattle.fp_entry.proofs.prepared.read_into.Goals as goal

pub returns-in-Ok-clause-ok : goal.returns-in-Ok-clause-ok
returns-in-Ok-clause-ok c = c.read_placed.ensures.ok c.args.octets.now c.in-Ok.ensures.found

pub returns-in-Ok-clause-err : goal.returns-in-Ok-clause-err
returns-in-Ok-clause-err c = c.read_placed.ensures.err c.args.octets.now c.in-Ok.ensures.found

pub returns-in-Err-Fault-clause-err : goal.returns-in-Err-Fault-clause-err
returns-in-Err-Fault-clause-err c =
    let why = rw c.in-Err-Fault.field-0-is at c.in-Err-Fault.ensures.fault in
    c.of_ber_fault.ensures c.args.contexts.now c.args.octets.now (λ memory. rw c.in-Err-Fault.field-0-is why)
