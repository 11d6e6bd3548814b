use Rattle.fp_records.proofs.OwnDays.{closed-exactly}
use Rattle.fp_records.proofs.laws.closed_days_are_those_of_the_file.Goals as goal

pub returns : goal.returns
returns c = closed-exactly
