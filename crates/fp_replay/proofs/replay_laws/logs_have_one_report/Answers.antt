use Rattle.fp_replay.proofs.OneLog.{fault_is_one, no_fault, report_counts, report_is_one}
use Rattle.fp_replay.proofs.replay_laws.logs_have_one_report.Goals as goal

pub returns-clause-report : goal.returns-clause-report
returns-clause-report c = report_is_one c.texts_are_of_one_line.ensures c.lines_are_retold_once.ensures

pub returns-clause-no_fault : goal.returns-clause-no_fault
returns-clause-no_fault c = no_fault c.texts_are_of_one_line.ensures c.answers_are_one.ensures c.lines_are_retold_once.ensures

pub returns-clause-fault : goal.returns-clause-fault
returns-clause-fault c = fault_is_one c.texts_are_of_one_line.ensures c.answers_are_one.ensures c.lines_are_retold_once.ensures

pub returns-clause-counted : goal.returns-clause-counted
returns-clause-counted c = report_counts c.retold_lines_are_counted.ensures
