-- The contents of a message of the program.
use Rattle.fp_ipa.specs.declared.message.IpaMessage.{IpaMessage}
use Rattle.fp_ipa.specs.Message.{Message}
use Rattle.fp_ipa.specs.StreamIdentifier.{stream_code}

abbrev pub message_value : IpaMessage → Message
message_value message = record { stream = stream_code message.stream; octets = message.octets }
