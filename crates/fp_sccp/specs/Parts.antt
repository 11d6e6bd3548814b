-- The mandatory variable part of a message (Q.713, 1.5 and 2.3): a pointer to each parameter, and after all pointers
-- the parameters, each of them octets after their number. The order of the pointers says which parameter is which.
use Rattle.std.specs.Prelude.{◌≡◌, ℕ, ◌+◌, ◌<◌, ◌≤◌, List, length, slice_index, slice_range}

-- the place to which the pointer at this place leads: a pointer counts from itself
abbrev pub place_of : List ℕ → ℕ → ℕ
place_of octets at = at + slice_index octets at

-- the pointer at this place leads to a parameter that begins after a head of this length, has an octet, and is whole
pub record HasPart (octets : List ℕ) (head at : ℕ) : Type 0 where
  pub after_head : head ≤ place_of octets at
  pub within : place_of octets at < length octets
  pub some : 1 ≤ slice_index octets (place_of octets at)
  pub whole : place_of octets at + 1 + slice_index octets (place_of octets at) ≤ length octets

-- the octets of that parameter
abbrev pub part_of : List ℕ → ℕ → List ℕ
part_of octets at =
    slice_range octets (place_of octets at + 1) (place_of octets at + 1 + slice_index octets (place_of octets at))

-- the three parameters of a message with a head of this length, whose pointers are at this place and the next two
pub record HasParts (octets : List ℕ) (head first : ℕ) (called calling user_data : List ℕ) : Type 0 where
  pub has_called : HasPart octets head first
  pub has_calling : HasPart octets head (first + 1)
  pub has_user_data : HasPart octets head (first + 2)
  pub called_is : called ≡ part_of octets first
  pub calling_is : calling ≡ part_of octets (first + 1)
  pub user_data_is : user_data ≡ part_of octets (first + 2)

-- how long a parameter is
abbrev pub IsPartSize : List ℕ → Type 0
IsPartSize part = (1 ≤ length part) × (length part ≤ 255)
