use Rattle.fp_inap.proofs.Arguments.{event_report_read}
use Rattle.fp_inap.proofs.event_report.event_report_in.Goals as goal

pub returns-clause-only : goal.returns-clause-only
returns-clause-only c = event_report_read _ _ c.event_report_of.ensures.ok c.event_report_of.ensures.err
