-- An entry requests at most one message.
use Rattle.fp_service.proofs.Folding.{length-requests}
use Rattle.fp_service.proofs.laws.entries_ask_once_at_most.Goals as goal

pub returns : goal.returns
returns c = length-requests
