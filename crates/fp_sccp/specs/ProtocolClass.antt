-- The protocol class (Q.713, 3.6): the class in the lower half of an octet, and in the upper half whether a message
-- that can't be delivered is to be returned.
use Rattle.std.specs.Prelude.{ℕ, ◌/◌, Bool, ◌==◌}
use Rattle.fp_sccp.specs.declared.protocol_class.ProtocolClass.{ProtocolClass}
use Rattle.fp_sccp.specs.declared.protocol_class.ProtocolClass.TheVariants.{Basic, Sequenced}

-- the code of a class
abbrev pub class_code : ProtocolClass → ℕ
class_code Basic = 0
class_code Sequenced = 1

-- "return message on error" is 1000 in the upper half; all other codes there are spare
abbrev pub is_returned : ℕ → Bool
is_returned octet = octet / 16 == 8
