-- The subsystem test of SCCP management and its answer (Q.713, 5; Q.714, 5.3.4).
use Rattle.std.specs.Prelude.{◌≡◌, ℕ, List, ◌∷◌, drop, length, slice_index, Option, Some, None}
use Rattle.fp_sccp.specs.Address.{HasSubsystem, subsystem}
use Rattle.fp_sccp.specs.Value.{UnitDataValue}
use Rattle.fp_sccp.specs.Written.{FitAddresses, unit_data_octets}

-- A message to the subsystem of SCCP management whose data are a subsystem test (SST, 3) for this subsystem: its
-- number, a point code in two octets, and a multiplicity.
pub record IsSubsystemTest (value : UnitDataValue) (number : ℕ) : Type 0 where
  pub has_subsystem : HasSubsystem value.called
  pub to_management : subsystem value.called ≡ 1
  pub size : length value.user_data ≡ 5
  pub format : slice_index value.user_data 0 ≡ 3
  pub tested : slice_index value.user_data 1 ≡ number

-- subsystem allowed (SSA, 1), with the rest of the test
abbrev pub allowed : List ℕ → List ℕ
allowed test = 1 ∷ drop 1 test

-- the answer to unit data: there is one only to a test for this subsystem, and only if it fits into a message
abbrev pub Allows : UnitDataValue → ℕ → Option (List ℕ) → Type 0
Allows value number (Some octets) =
    IsSubsystemTest value number × FitAddresses value.calling value.called
    × (octets ≡ unit_data_octets 0 value.calling value.called (allowed value.user_data))
Allows value number None = ¬ (IsSubsystemTest value number × FitAddresses value.calling value.called)
