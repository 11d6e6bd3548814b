use Rattle.std.proofs.Common.{arith}
use Rattle.fp_logtext.proofs.MessageLens.{messages_len-append}
use Rattle.fp_logtext.proofs.waiting.WaitingLines.take_in.Goals as goal

pub invariant_of-self-2 : goal.invariant_of-self-2
invariant_of-self-2 c =
    let both = messages_len-append c.self.inside.lines.items c.args.moved.now.items in
    let added = rw c.deref.ensures.value at c.plus_messages_len-octets.ensures in
    rw c.in_ok-append.ensures.items (omega (arith, both, added, c.self.invariant))
