-- The messages that are read (Q.713, 4.10, 4.11 and 4.18): UDT, UDTS and XUDT.
use Rattle.std.specs.Prelude.{◌≡◌, ℕ, ◌%◌, ◌⊎◌, Bool, true, false, List, slice_index}
use Rattle.fp_sccp.specs.declared.kind.Kind.TheVariants.{UnitData, ExtendedUnitData}
use Rattle.fp_sccp.specs.OptionalPart.{OptionalPartSays}
use Rattle.fp_sccp.specs.Parts.{HasParts, IsPartSize}
use Rattle.fp_sccp.specs.ProtocolClass.{class_code, is_returned}
use Rattle.fp_sccp.specs.ReturnCause.{HasCause}
use Rattle.fp_sccp.specs.Value.{UnitDataValue, ServiceValue, MessageValue, unit_data, segment, service}

-- type 09, a protocol class, and three parameters after a head of five octets
pub record IsUnitData (octets : List ℕ) (value : UnitDataValue) : Type 0 where
  pub kind : value.kind ≡ UnitData
  pub code : slice_index octets 0 ≡ 9
  pub class : class_code value.class ≡ slice_index octets 1 % 16
  pub returned : value.returns_on_error ≡ is_returned (slice_index octets 1)
  pub parts : HasParts octets 5 2 value.called value.calling value.user_data

-- type 0A, a return cause, and three parameters after a head of five octets
pub record IsService (octets : List ℕ) (value : ServiceValue) : Type 0 where
  pub code : slice_index octets 0 ≡ 10
  pub cause : HasCause (slice_index octets 1) value.cause
  pub parts : HasParts octets 5 2 value.called value.calling value.user_data

-- type 11, a protocol class, a hop counter, and three parameters and perhaps an optional part after a head of seven
-- octets; the optional part says whether the message is whole
pub record IsExtended (octets : List ℕ) (value : UnitDataValue) (whole : Bool) : Type 0 where
  pub kind : value.kind ≡ ExtendedUnitData
  pub code : slice_index octets 0 ≡ 17
  pub class : class_code value.class ≡ slice_index octets 1 % 16
  pub returned : value.returns_on_error ≡ is_returned (slice_index octets 1)
  pub parts : HasParts octets 7 3 value.called value.calling value.user_data
  pub optional : OptionalPartSays octets whole

-- the octets are this message
abbrev pub IsMessage : List ℕ → MessageValue → Type 0
IsMessage octets (unit_data value) = IsUnitData octets value ⊎ IsExtended octets value true
IsMessage octets (segment value) = IsExtended octets value false
IsMessage octets (service value) = IsService octets value

-- each parameter of unit data has 1 to 255 octets
pub record HasSizes (value : UnitDataValue) : Type 0 where
  pub called : IsPartSize value.called
  pub calling : IsPartSize value.calling
  pub user_data : IsPartSize value.user_data

-- so have those of the unit data in a message
abbrev pub MessageHasSizes : MessageValue → Type 0
MessageHasSizes (unit_data value) = HasSizes value
MessageHasSizes (segment value) = HasSizes value
MessageHasSizes (service value) = Unit {0}
