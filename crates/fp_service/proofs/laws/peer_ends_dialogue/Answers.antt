-- The peer's End and its Abort end a dialogue.
use Rattle.fp_service.proofs.Folding.{peer_ends_dialogue}
use Rattle.fp_service.proofs.laws.peer_ends_dialogue.Goals as goal

pub returns : goal.returns
returns c = peer_ends_dialogue
