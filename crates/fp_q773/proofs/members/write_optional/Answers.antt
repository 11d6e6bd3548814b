-- The lengths of the element take four octets.
use Rattle.fp_q773.proofs.Rooms.{has_lengths}
use Rattle.fp_q773.proofs.members.write_optional.Goals as goal

pub put_lent-requires-clause-lengths : goal.put_lent-requires-clause-lengths
put_lent-requires-clause-lengths c = has_lengths _ (rw c.in-Some.is at c.requires.room)
