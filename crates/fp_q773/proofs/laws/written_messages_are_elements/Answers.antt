-- What is written for a message can be spelled.
use Rattle.fp_q773.proofs.Rooms.{written_size, written_lengths}
use Rattle.fp_q773.proofs.Tags.{written_tags}
use Rattle.fp_q773.proofs.laws.written_messages_are_elements.Goals as goal

pub returns-clause-tags : goal.returns-clause-tags
returns-clause-tags c = written_tags

pub returns-clause-room : goal.returns-clause-room
returns-clause-room c = written_size

pub returns-clause-lengths : goal.returns-clause-lengths
returns-clause-lengths c = written_lengths
