-- The message can be spelled.
use Rattle.fp_q773.specs.Tid.{octets_of}
use Rattle.fp_reply.specs.Reply.{reply}
use Rattle.fp_reply.proofs.Nesting.{reply_in_range}
use Rattle.fp_reply.proofs.Sending.{sent_spelled}
use Rattle.fp_reply.proofs.message.reply_to.Goals as goal

pub returns-clause-spelled : goal.returns-clause-spelled
returns-clause-spelled c =
    let law = c.written_messages_are_elements.ensures in
    let peer = octets_of c.args.peer.now in
    sent_spelled law.tags (reply c.args.request.now c.args.local peer) c.in_ok-write_message.ensures.message
    (reply_in_range c.args.request.now c.args.local peer)
