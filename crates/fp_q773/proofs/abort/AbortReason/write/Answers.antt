-- The lengths of the dialogue portion take four octets.
use Rattle.fp_q773.proofs.Rooms.{has_lengths}
use Rattle.fp_q773.proofs.abort.AbortReason.write.Goals as goal

pub put_lent-requires-clause-lengths : goal.put_lent-requires-clause-lengths
put_lent-requires-clause-lengths c = has_lengths _ (rw c.in-User.is at c.requires.room)
