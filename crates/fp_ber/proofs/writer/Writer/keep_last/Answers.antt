-- What is left when the first octets are taken away.
use Rattle.std.proofs.Common.{sym}
use Rattle.fp_ber.proofs.Puts.{kept_behind}
use Rattle.fp_ber.proofs.writer.Writer.keep_last.Goals as goal

pub returns-then-count-length-clause-some : goal.returns-then-count-length-clause-some
returns-then-count-length-clause-some c rest ends size =
    rw (c.len-length.ensures.value, ends.is, sym size) (kept_behind c.self.inside.room.items ends.front rest c.self.inside.start (rw c.self.view_is ends.is))
