use Rattle.fp_ask.specs.proof_only.Answering.{seen}
use Rattle.fp_ask.proofs.Asking.{answered_is, stopped_is, writer_is}
use Rattle.fp_ask.proofs.answering.Answering.answer_lines.Goals as goal

pub returns-clause-same_writer : goal.returns-clause-same_writer
returns-clause-same_writer g c = (writer_is (seen g.W.LinkWrite.contents g.W.LinkWrite.failures) _ c.requires.at c.follow_lines.ensures.follows).0

pub returns-clause-answered : goal.returns-clause-answered
returns-clause-answered g c =
    rw c.asked.ensures (answered_is c.line_feeds_end_lines.ensures (seen g.W.LinkWrite.contents g.W.LinkWrite.failures) _ c.requires.at c.follow_lines.ensures.follows)

pub returns-clause-stopped : goal.returns-clause-stopped
returns-clause-stopped g c =
    rw c.asked.ensures (stopped_is c.line_feeds_end_lines.ensures (seen g.W.LinkWrite.contents g.W.LinkWrite.failures) _ c.requires.at c.follow_lines.ensures.follows)

pub returns-clause-writes : goal.returns-clause-writes
returns-clause-writes g c =
    rw c.asked.ensures (writer_is (seen g.W.LinkWrite.contents g.W.LinkWrite.failures) _ c.requires.at c.follow_lines.ensures.follows).1
