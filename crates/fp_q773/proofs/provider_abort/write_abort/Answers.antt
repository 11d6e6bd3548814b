-- What was put together is the spelling, whatever the length of the identifier.
use Rattle.fp_q773.proofs.Spellings.{abort_of}
use Rattle.fp_q773.proofs.provider_abort.write_abort.Goals as goal

pub returns : goal.returns
returns c =
    rw (c.extend-3.ensures, c.extend-2.ensures, c.extend.ensures, c.new-octets.ensures, c.as_slice-identifier.ensures.value, c.code.ensures)
    (abort_of c.args.destination _ c.as_slice-identifier.ensures.size)
