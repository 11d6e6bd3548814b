-- The reader's length, and its faults.
use Rattle.fp_q773.proofs.Lengths.{no_length, read_length}
use Rattle.fp_q773.proofs.length.length_at.Goals as goal

pub returns-in-Ok-clause-some : goal.returns-in-Ok-clause-some
returns-in-Ok-clause-some c = read_length c.in-Ok.value c.args.octets.now c.in-Ok.rest.now c.in-Ok.ensures.ok

pub returns-in-Err-clause-none : goal.returns-in-Err-clause-none
returns-in-Err-clause-none c = no_length c.args.octets.now c.in-Err.field-0 c.in-Err.ensures.err
