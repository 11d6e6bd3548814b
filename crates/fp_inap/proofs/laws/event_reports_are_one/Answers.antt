use Rattle.fp_inap.proofs.Arguments.{event_report_same}
use Rattle.fp_inap.proofs.laws.event_reports_are_one.Goals as goal

pub returns : goal.returns
returns c = event_report_same
