-- What becomes of a message of SCCP that comes for a link (Q.714, 2.4, 4.2 and 5.3).
use Rattle.std.specs.Prelude.{◌≡◌, ◌≢◌, ◌≤◌, ◌⊎◌, ℕ, List, length}
use Rattle.fp_sccp.specs.declared.fault.SccpFault.{SccpFault}
use Rattle.fp_sccp.specs.declared.return_cause.ReturnCause.{ReturnCause}
use Rattle.fp_sccp.specs.declared.return_cause.ReturnCause.TheVariants as causes
use Rattle.fp_sccp.specs.Address.{HasSubsystem, subsystem}
use Rattle.fp_sccp.specs.Fault.{IsFault}
use Rattle.fp_sccp.specs.Message.{IsMessage}
use Rattle.fp_sccp.specs.Value.{UnitDataValue, ServiceValue, unit_data, segment, service}
use Rattle.fp_sccp.specs.View.{unit_data_value}
use Rattle.fp_adaptor.specs.declared.setting.Setting.{Setting}
use Rattle.fp_adaptor.specs.declared.setting.Judged.{Judged}
use Rattle.fp_adaptor.specs.declared.setting.Judged.TheVariants as judged

pub data Verdict : Type 0 where
  handed_on : List ℕ → Verdict
  management : UnitDataValue → Verdict
  refused : UnitDataValue → ReturnCause → Verdict
  returned : Verdict
  unreadable : SccpFault → Verdict

abbrev pub verdict_of : Judged → Verdict
verdict_of (judged.HandedOn octets) = handed_on octets.now
verdict_of (judged.Management message) = management (unit_data_value message)
verdict_of (judged.Refused message cause) = refused (unit_data_value message) cause
verdict_of judged.Returned = returned
verdict_of (judged.Unreadable fault) = unreadable fault

-- unit data to a subsystem of this number
abbrev pub IsTo : UnitDataValue → ℕ → Type 0
IsTo value number = HasSubsystem value.called × (subsystem value.called ≡ number)

-- unit data to the subsystem of SCCP management
abbrev pub IsToManagement : UnitDataValue → Type 0
IsToManagement value = IsTo value 1

-- unit data to the subsystem of the node's own address, and not to SCCP management
abbrev pub IsToOwn : Setting → UnitDataValue → Type 0
IsToOwn setting value = ¬ IsToManagement value × HasSubsystem setting.own × IsTo value (subsystem setting.own)

-- unit data that go to the link: those to its own subsystem, from its exchange
abbrev pub IsForLink : Setting → UnitDataValue → Type 0
IsForLink setting value = IsToOwn setting value × (value.calling ≡ setting.exchange)

-- why whole unit data are refused: no such subsystem is there (4); another sender, which has no cause of its own (7)
abbrev pub RefusesWhole : Setting → UnitDataValue → ReturnCause → Type 0
RefusesWhole setting value causes.UnequippedUser = ¬ IsToManagement value × ¬ IsToOwn setting value
RefusesWhole setting value causes.Unqualified = IsToOwn setting value × (value.calling ≢ setting.exchange)
RefusesWhole setting value cause = ⊥

-- what whole unit data are
abbrev pub JudgesWhole : Setting → UnitDataValue → Verdict → Type 0
JudgesWhole setting value (handed_on octets) = IsForLink setting value × (octets ≡ value.user_data)
JudgesWhole setting value (management same) = IsToManagement value × (same ≡ value)
JudgesWhole setting value (refused same cause) = RefusesWhole setting value cause × (same ≡ value)
JudgesWhole setting value returned = ⊥
JudgesWhole setting value (unreadable fault) = ⊥

-- a segment is refused, since the others may go to other nodes
abbrev pub RefusesSegment : List ℕ → UnitDataValue → ReturnCause → Type 0
RefusesSegment octets value causes.DestinationCannotPerformReassembly = IsMessage octets (segment value)
RefusesSegment octets value cause = ⊥

-- whole unit data in a message, with this verdict
abbrev pub JudgesUnitData : Setting → List ℕ → Verdict → Type 0
JudgesUnitData setting octets verdict =
    (value : UnitDataValue) × IsMessage octets (unit_data value) × JudgesWhole setting value verdict

-- what a message is
abbrev pub Judges : Setting → List ℕ → Verdict → Type 0
Judges setting octets (handed_on message) = JudgesUnitData setting octets (handed_on message)
Judges setting octets (management value) = JudgesUnitData setting octets (management value)
Judges setting octets (refused value cause) =
    JudgesUnitData setting octets (refused value cause) ⊎ RefusesSegment octets value cause
Judges setting octets returned = (value : ServiceValue) × IsMessage octets (service value)
Judges setting octets (unreadable fault) = IsFault octets fault

-- data that go to the link are 1 to 255 octets
abbrev pub HasDataSize : Verdict → Type 0
HasDataSize (handed_on octets) = (1 ≤ length octets) × (length octets ≤ 255)
HasDataSize (management value) = Unit {0}
HasDataSize (refused value cause) = Unit {0}
HasDataSize returned = Unit {0}
HasDataSize (unreadable fault) = Unit {0}
