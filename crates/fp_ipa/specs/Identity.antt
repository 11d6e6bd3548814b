-- The contents of an ID_RESP: items, each the number of octets of its tag and value, in two octets, its tag and its
-- value. The unit name is the value of the first item with tag 01.
use Rattle.std.specs.Prelude.{◌≡◌, ◌≢◌, ℕ, ◌+◌, ◌-◌, ◌/◌, ◌%◌, ◌<◌, ◌≤◌, ◌==◌, if◌then◌else◌, List, [], ◌∷◌, ◌++◌, Some, length, take, slice_get, slice_index}

pub record Item : Type 0 where
  pub tag : ℕ
  pub value : List ℕ

abbrev pub item_of : ℕ → List ℕ → Item
item_of tag value = record { tag = tag; value = value }

abbrev pub item_octets : Item → List ℕ
item_octets item = (1 + length item.value) / 256 ∷ (1 + length item.value) % 256 ∷ item.tag ∷ item.value

-- after these items comes a unit name of this value; the octets after it aren't looked at
abbrev pub HasUnitNameAfter : List Item → List ℕ → List ℕ → Type 0
HasUnitNameAfter [] contents value = (rest : List ℕ) × (contents ≡ item_octets (item_of 1 value) ++ rest)
HasUnitNameAfter (item ∷ items) contents value =
    (item.tag ≢ 1) × ((rest : List ℕ) × (contents ≡ item_octets item ++ rest) × HasUnitNameAfter items rest value)

-- contents say this unit name
abbrev pub SaysUnitName : List ℕ → List ℕ → Type 0
SaysUnitName contents value = (items : List Item) × HasUnitNameAfter items contents value

-- a value without the octet 00 at its end, if it ends in one
abbrev pub without_end : List ℕ → List ℕ
without_end value =
    if slice_index value (length value - 1) == 0 then take (length value - 1) value else value

-- the length of a name that the program takes
abbrev pub IsUnitName : List ℕ → Type 0
IsUnitName name = (1 ≤ length name) × (length name ≤ 64)

-- the place of the first of the names that is this one
pub record IsFirstPlace (names : List (List ℕ)) (name : List ℕ) (place : ℕ) : Type 0 where
  pub there : slice_get names place ≡ Some name
  pub first : (before : ℕ) → before < place → slice_get names before ≢ Some name

-- contents name this one of the units
abbrev pub NamesUnit : List (List ℕ) → List ℕ → ℕ → Type 0
NamesUnit names contents unit =
    (value : List ℕ) × SaysUnitName contents value × IsFirstPlace names (without_end value) unit
