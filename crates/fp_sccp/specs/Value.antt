-- The contents of messages of SCCP (Q.713, 4.10, 4.11 and 4.18), as values without an address in memory.
use Rattle.std.specs.Prelude.{ℕ, Bool, List, Option}
use Rattle.fp_sccp.specs.declared.kind.Kind.{Kind}
use Rattle.fp_sccp.specs.declared.protocol_class.ProtocolClass.{ProtocolClass}
use Rattle.fp_sccp.specs.declared.return_cause.ReturnCause.{ReturnCause}

-- a UDT, or an XUDT
pub record UnitDataValue : Type 0 where
  pub kind : Kind
  pub class : ProtocolClass
  pub returns_on_error : Bool
  pub called : List ℕ
  pub calling : List ℕ
  pub user_data : List ℕ

-- a UDTS; it has no cause if Q.713 names none of its code
pub record ServiceValue : Type 0 where
  pub cause : Option ReturnCause
  pub called : List ℕ
  pub calling : List ℕ
  pub user_data : List ℕ

-- a whole message, a segment of one, or one that was returned
pub data MessageValue : Type 0 where
  unit_data : UnitDataValue → MessageValue
  segment : UnitDataValue → MessageValue
  service : ServiceValue → MessageValue
