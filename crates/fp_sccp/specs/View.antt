-- The contents of a message of the program.
use Rattle.fp_sccp.specs.declared.unit_data.UnitData.{UnitData}
use Rattle.fp_sccp.specs.declared.service.Service.{Service}
use Rattle.fp_sccp.specs.declared.message.SccpMessage.{SccpMessage}
use Rattle.fp_sccp.specs.declared.message.SccpMessage.TheVariants as messages
use Rattle.fp_sccp.specs.Value.{UnitDataValue, ServiceValue, MessageValue, unit_data, segment, service}

abbrev pub unit_data_value : UnitData → UnitDataValue
unit_data_value message = record {
  kind = message.kind;
  class = message.class;
  returns_on_error = message.returns_on_error;
  called = message.called.now;
  calling = message.calling.now;
  user_data = message.user_data.now;
}

abbrev pub service_value : Service → ServiceValue
service_value message = record {
  cause = message.cause;
  called = message.called.now;
  calling = message.calling.now;
  user_data = message.user_data.now;
}

abbrev pub message_value : SccpMessage → MessageValue
message_value (messages.UnitData message) = unit_data (unit_data_value message)
message_value (messages.Segment message) = segment (unit_data_value message)
message_value (messages.Service message) = service (service_value message)
