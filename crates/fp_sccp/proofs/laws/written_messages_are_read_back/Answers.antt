use Rattle.fp_sccp.proofs.Writing.{addresses_are_read_back, extended_services_have_parts, services_are_read_back, unit_data_is_read_back}
use Rattle.fp_sccp.proofs.laws.written_messages_are_read_back.Goals as goal

pub returns-clause-unit_data : goal.returns-clause-unit_data
returns-clause-unit_data c = unit_data_is_read_back

pub returns-clause-service : goal.returns-clause-service
returns-clause-service c = services_are_read_back

pub returns-clause-extended : goal.returns-clause-extended
returns-clause-extended c = extended_services_have_parts

pub returns-clause-address : goal.returns-clause-address
returns-clause-address c = addresses_are_read_back
