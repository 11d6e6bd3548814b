use Rattle.fp_streams.proofs.Taken.{ended_lines}
use Rattle.fp_streams.proofs.Parts.{lines_long}
use Rattle.fp_streams.proofs.laws.line_feeds_end_lines.Goals as goal

pub returns-clause-lines : goal.returns-clause-lines
returns-clause-lines c = ended_lines

pub returns-clause-long : goal.returns-clause-long
returns-clause-long c = lines_long
