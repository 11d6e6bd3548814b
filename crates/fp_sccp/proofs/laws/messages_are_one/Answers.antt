use Rattle.fp_sccp.proofs.Messages.{faults_are_no_messages, messages_are_one}
use Rattle.fp_sccp.proofs.laws.messages_are_one.Goals as goal

pub returns-clause-one : goal.returns-clause-one
returns-clause-one c = messages_are_one

pub returns-clause-fault : goal.returns-clause-fault
returns-clause-fault c = faults_are_no_messages
