-- An element is at most one message.
use Rattle.fp_q773.proofs.Messages.{message_same}
use Rattle.fp_q773.proofs.laws.messages_are_one.Goals as goal

pub returns : goal.returns
returns c = message_same
