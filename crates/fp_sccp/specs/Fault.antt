-- Which octets are no message, and why: the first reason from the type to the last parameter.
use Rattle.std.specs.Prelude.{◌≡◌, ◌≢◌, ℕ, ◌+◌, ◌%◌, ◌<◌, ◌≤◌, ◌⊎◌, Bool, List, length, slice_index}
use Rattle.fp_sccp.specs.declared.fault.SccpFault.{SccpFault}
use Rattle.fp_sccp.specs.declared.fault.SccpFault.TheVariants.{UnknownType, Cut, ProtocolClass, CalledAddress, CallingAddress, UserData, OptionalPart}
use Rattle.fp_sccp.specs.OptionalPart.{OptionalPartSays}
use Rattle.fp_sccp.specs.Parts.{HasPart}

-- the first parameter that isn't there: the head of the message has this length, and its pointers begin at this place
abbrev pub LacksPart : List ℕ → ℕ → ℕ → SccpFault → Type 0
LacksPart octets head first CalledAddress = ¬ HasPart octets head first
LacksPart octets head first CallingAddress = HasPart octets head first × ¬ HasPart octets head (first + 1)
LacksPart octets head first UserData =
    HasPart octets head first × HasPart octets head (first + 1) × ¬ HasPart octets head (first + 2)
LacksPart octets head first UnknownType = ⊥
LacksPart octets head first Cut = ⊥
LacksPart octets head first ProtocolClass = ⊥
LacksPart octets head first OptionalPart = ⊥

-- an octet whose lower half is class 0 or 1
abbrev pub IsClass : ℕ → Type 0
IsClass octet = octet % 16 < 2

-- why octets of type 09 are no UDT
abbrev pub UnitDataFault : List ℕ → SccpFault → Type 0
UnitDataFault octets Cut = length octets < 5
UnitDataFault octets ProtocolClass = (5 ≤ length octets) × ¬ IsClass (slice_index octets 1)
UnitDataFault octets fault = (5 ≤ length octets) × IsClass (slice_index octets 1) × LacksPart octets 5 2 fault

-- why octets of type 0A are no UDTS
abbrev pub ServiceFault : List ℕ → SccpFault → Type 0
ServiceFault octets Cut = length octets < 5
ServiceFault octets fault = (5 ≤ length octets) × LacksPart octets 5 2 fault

-- why octets of type 11 are no XUDT
abbrev pub ExtendedFault : List ℕ → SccpFault → Type 0
ExtendedFault octets Cut = length octets < 7
ExtendedFault octets ProtocolClass = (7 ≤ length octets) × ¬ IsClass (slice_index octets 1)
ExtendedFault octets OptionalPart =
    (7 ≤ length octets) × IsClass (slice_index octets 1)
    × HasPart octets 7 3 × HasPart octets 7 4 × HasPart octets 7 5
    × ((whole : Bool) → ¬ OptionalPartSays octets whole)
ExtendedFault octets fault = (7 ≤ length octets) × IsClass (slice_index octets 1) × LacksPart octets 7 3 fault

-- why octets are no message
abbrev pub IsFault : List ℕ → SccpFault → Type 0
IsFault octets UnknownType = (slice_index octets 0 ≢ 9) × (slice_index octets 0 ≢ 10) × (slice_index octets 0 ≢ 17)
IsFault octets fault =
    ((slice_index octets 0 ≡ 9) × UnitDataFault octets fault)
    ⊎ ((slice_index octets 0 ≡ 10) × ServiceFault octets fault)
    ⊎ ((slice_index octets 0 ≡ 17) × ExtendedFault octets fault)
