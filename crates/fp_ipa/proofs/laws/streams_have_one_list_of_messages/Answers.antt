use Rattle.fp_ipa.proofs.Streams.{streams_are_one}
use Rattle.fp_ipa.proofs.laws.streams_have_one_list_of_messages.Goals as goal

pub returns-clause-one : goal.returns-clause-one
returns-clause-one c = streams_are_one
