-- What holds of all messages.
use Rattle.std.specs.Prelude.{◌≡◌, ℕ, ◌<◌, ◌≤◌, false, List, Some, length, slice_index}
use Rattle.fp_sccp.specs.declared.fault.SccpFault.{SccpFault}
use Rattle.fp_sccp.specs.declared.kind.Kind.TheVariants.{UnitData, ExtendedUnitData}
use Rattle.fp_sccp.specs.declared.protocol_class.ProtocolClass.{ProtocolClass}
use Rattle.fp_sccp.specs.declared.return_cause.ReturnCause.{ReturnCause}
use Rattle.fp_sccp.specs.Address.{HasPointCode, HasSubsystem, address_of, point_code, subsystem}
use Rattle.fp_sccp.specs.Fault.{IsFault}
use Rattle.fp_sccp.specs.Message.{IsMessage}
use Rattle.fp_sccp.specs.Parts.{HasParts}
use Rattle.fp_sccp.specs.ProtocolClass.{class_code}
use Rattle.fp_sccp.specs.ReturnCause.{cause_code}
use Rattle.fp_sccp.specs.Value.{MessageValue, unit_data, service}
use Rattle.fp_sccp.specs.Written.{service_octets, unit_data_octets}

-- octets are at most one message
abbrev pub MessagesAreOne : Type 0
MessagesAreOne = (octets : List ℕ) (one other : MessageValue) → IsMessage octets one → IsMessage octets other → one ≡ other

-- octets with a fault are no message
abbrev pub FaultsAreNoMessages : Type 0
FaultsAreNoMessages = (octets : List ℕ) (fault : SccpFault) (value : MessageValue) → IsFault octets fault → ¬ IsMessage octets value

-- a UDT is read back from the octets that are written for it
abbrev pub UnitDataIsReadBack : Type 0
UnitDataIsReadBack =
    (class : ProtocolClass) (called calling user_data : List ℕ)
    → 1 ≤ length called → 1 ≤ length calling → 1 ≤ length user_data
    → IsMessage (unit_data_octets (class_code class) called calling user_data) (unit_data (record {
      kind = UnitData;
      class = class;
      returns_on_error = false;
      called = called;
      calling = calling;
      user_data = user_data;
    }))

-- the UDTS that is returned for a UDT is read back, with its cause, its addresses and its data
abbrev pub ServicesAreReadBack : Type 0
ServicesAreReadBack =
    (cause : ReturnCause) (called calling user_data : List ℕ)
    → 1 ≤ length called → 1 ≤ length calling → 1 ≤ length user_data
    → IsMessage (service_octets UnitData (cause_code cause) called calling user_data) (service (record {
      cause = Some cause;
      called = called;
      calling = calling;
      user_data = user_data;
    }))

-- the pointers of the XUDTS that is returned for an XUDT lead to its addresses and its data, and to no optional part
abbrev pub ExtendedServicesHaveParts : Type 0
ExtendedServicesHaveParts =
    (code : ℕ) (called calling user_data : List ℕ)
    → 1 ≤ length called → 1 ≤ length calling → 1 ≤ length user_data
    → HasParts (service_octets ExtendedUnitData code called calling user_data) 7 3 called calling user_data
    × (slice_index (service_octets ExtendedUnitData code called calling user_data) 6 ≡ 0)

-- an address that is made of a point code and a subsystem number has these
abbrev pub AddressesAreReadBack : Type 0
AddressesAreReadBack =
    (code number : ℕ) → code < 16384
    → HasPointCode (address_of code number) × (point_code (address_of code number) ≡ code)
    × HasSubsystem (address_of code number) × (subsystem (address_of code number) ≡ number)
