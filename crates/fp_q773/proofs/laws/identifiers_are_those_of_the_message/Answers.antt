-- Octets that spell a message tell its kind and its identifiers.
use Rattle.fp_q773.proofs.Identified.{identified}
use Rattle.fp_q773.proofs.laws.identifiers_are_those_of_the_message.Goals as goal

pub returns : goal.returns
returns c = identified
