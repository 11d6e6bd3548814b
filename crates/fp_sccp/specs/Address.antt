-- The address of a party (Q.713, 3.4): an indicator, and then a point code, a subsystem number and a global title, each
-- of them if the indicator says so.
use Rattle.std.specs.Prelude.{◌≡◌, ℕ, ◌+◌, ◌*◌, ◌/◌, ◌%◌, ◌<◌, ◌≤◌, List, [], ◌∷◌, length, slice_index}

-- the most octets of an address that the program sends from or to
abbrev pub most_octets : ℕ
most_octets = 18

-- how long such an address is: it has an indicator at least
abbrev pub IsAddress : List ℕ → Type 0
IsAddress octets = (1 ≤ length octets) × (length octets ≤ most_octets)

-- the first bit of the indicator says that a point code follows, in two octets (3.4.1), and they are there
pub record HasPointCode (address : List ℕ) : Type 0 where
  pub said : slice_index address 0 % 2 ≡ 1
  pub there : 3 ≤ length address

-- its 14 bits, the least significant octet first (3.4.2.1); the two bits above them are spare
abbrev pub point_code : List ℕ → ℕ
point_code address = (slice_index address 1 + 256 * slice_index address 2) % 16384

-- the subsystem number follows the point code, or the indicator if there is no point code
abbrev pub subsystem_place : List ℕ → ℕ
subsystem_place address = 1 + 2 * (slice_index address 0 % 2)

-- the second bit of the indicator says that a subsystem number follows, in one octet (3.4.1), and it is there
pub record HasSubsystem (address : List ℕ) : Type 0 where
  pub said : slice_index address 0 / 2 % 2 ≡ 1
  pub there : subsystem_place address < length address

abbrev pub subsystem : List ℕ → ℕ
subsystem address = slice_index address (subsystem_place address)

-- an address that is routed on its subsystem number (indicator 43) and has a point code and no global title
abbrev pub address_of : ℕ → ℕ → List ℕ
address_of code number = 67 ∷ code % 256 ∷ code / 256 ∷ number ∷ []
