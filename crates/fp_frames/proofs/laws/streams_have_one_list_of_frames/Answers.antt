use Rattle.fp_frames.proofs.Streams.{streams_are_one}
use Rattle.fp_frames.proofs.laws.streams_have_one_list_of_frames.Goals as goal

pub returns-clause-one : goal.returns-clause-one
returns-clause-one c = streams_are_one
