-- The octets of the messages that are written (Q.713, 4.10, 4.11 and 4.19): the parameters follow the pointers, in
-- their order and with no gap.
use Rattle.std.specs.Prelude.{◌≡◌, ℕ, ◌+◌, ◌≤◌, IsTrue, List, ◌∷◌, ◌++◌, length, Option, Some, None}
use Rattle.fp_sccp.specs.declared.kind.Kind.{Kind}
use Rattle.fp_sccp.specs.declared.kind.Kind.TheVariants.{UnitData, ExtendedUnitData}
use Rattle.fp_sccp.specs.declared.return_cause.ReturnCause.{ReturnCause}
use Rattle.fp_sccp.specs.ReturnCause.{cause_code}
use Rattle.fp_sccp.specs.Value.{UnitDataValue}

-- a parameter after its length
abbrev pub counted : List ℕ → List ℕ
counted part = length part ∷ part

abbrev pub parameters_octets : List ℕ → List ℕ → List ℕ → List ℕ
parameters_octets called calling user_data = counted called ++ counted calling ++ counted user_data

-- a UDT of this class, or a UDTS of this cause: a type, the class or cause, and three pointers
abbrev pub message_octets : ℕ → ℕ → List ℕ → List ℕ → List ℕ → List ℕ
message_octets code second called calling user_data =
    code ∷ second ∷ 3 ∷ (3 + length called) ∷ (3 + length called + length calling)
    ∷ parameters_octets called calling user_data

-- an XUDTS of this cause: a type, the cause, the greatest hop counter, three pointers, and the pointer 0 for no
-- optional part
abbrev pub extended_octets : ℕ → ℕ → List ℕ → List ℕ → List ℕ → List ℕ
extended_octets code second called calling user_data =
    code ∷ second ∷ 15 ∷ 4 ∷ (4 + length called) ∷ (4 + length called + length calling) ∷ 0
    ∷ parameters_octets called calling user_data

-- a UDT
abbrev pub unit_data_octets : ℕ → List ℕ → List ℕ → List ℕ → List ℕ
unit_data_octets class called calling user_data = message_octets 9 class called calling user_data

-- a UDT is returned by a UDTS, and an XUDT by an XUDTS
abbrev pub service_octets : Kind → ℕ → List ℕ → List ℕ → List ℕ → List ℕ
service_octets UnitData cause called calling user_data = message_octets 10 cause called calling user_data
service_octets ExtendedUnitData cause called calling user_data = extended_octets 18 cause called calling user_data

-- the addresses whose pointers fit into an octet each, in an XUDTS
abbrev pub FitAddresses : List ℕ → List ℕ → Type 0
FitAddresses called calling = length called + length calling ≤ 251

-- unit data that fit into the message by which they are returned
abbrev pub FitsService : UnitDataValue → Type 0
FitsService value = FitAddresses value.calling value.called × (length value.user_data ≤ 255)

-- the octets by which unit data are returned: there are some only if their sender wants the data back and they fit
abbrev pub Returns : UnitDataValue → ReturnCause → Option (List ℕ) → Type 0
Returns value cause (Some octets) =
    IsTrue value.returns_on_error × FitsService value
    × (octets ≡ service_octets value.kind (cause_code cause) value.calling value.called value.user_data)
Returns value cause None = ¬ (IsTrue value.returns_on_error × FitsService value)
