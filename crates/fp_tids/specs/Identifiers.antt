-- The local transaction identifiers of a link (ITU-T Q.773, 4.2.1.3): numbers of 32 bits, each the sum of the link, 0 to
-- 7, times 2^29, of the tag of its run, 0 to 4,094, times 2^17, and of a serial, 1 to 131,072. The serials wait in a
-- queue: the front one is given, and one that comes back goes to the back.
use Rattle.std.specs.Prelude.{◌≡◌, ℕ, ◌+◌, ◌-◌, ◌*◌, ◌/◌, ◌%◌, ◌^◌, ◌<◌, ◌≤◌, Bool, false, true, List, [], ◌∷◌, ◌++◌, Option, Some, None, drop, nat_eq}
use Rattle.std.specs.List.{IsDistinct, list_any, range_with_len}

-- a link, the tag of its run, and the serials that may be given, the next one first
pub record LocalIds : Type 0 where
  pub link : ℕ
  pub tag : ℕ
  pub queue : List ℕ

-- the last serial
abbrev pub last_serial : ℕ
last_serial = 131072

-- the last tag
abbrev pub last_tag : ℕ
last_tag = 4094

-- the serials above one, up to the last, in their order
unfoldable pub serials_above : ℕ → List ℕ
serials_above serial = range_with_len (serial + 1) (last_serial - serial)

-- all serials, 1 to 131,072, in their order; never computed, since the list is long
abbrev pub all_serials : List ℕ
all_serials = serials_above 0

-- whether a serial is among these
abbrev pub is_free : ℕ → List ℕ → Bool
is_free serial serials = list_any (nat_eq serial) serials

-- serials, none of them twice
pub record AreSerials (serials : List ℕ) : Type 0 where
  pub distinct : IsDistinct nat_eq serials
  pub within : (serial : ℕ) → is_free serial serials ≡ true → (0 < serial) × (serial ≤ last_serial)

-- what the serials of a link and a tag are added to
abbrev pub base_of : ℕ → ℕ → ℕ
base_of link tag = link * 2 ^ 29 + tag * 2 ^ 17

-- the identifier of a serial
abbrev pub identifier : ℕ → ℕ → ℕ
identifier base serial = base + serial

-- the link of an identifier
abbrev pub link_of : ℕ → ℕ
link_of local = local / 2 ^ 29

-- its serial: serials begin at 1
abbrev pub serial_of : ℕ → ℕ
serial_of local = (local - 1) % 2 ^ 17 + 1

-- the identifier of the front one of these serials, and none if there is none
abbrev pub first_of : ℕ → List ℕ → Option ℕ
first_of base [] = None
first_of base (serial ∷ serials) = Some (identifier base serial)

-- the identifier that is given next
abbrev pub next_of : LocalIds → Option ℕ
next_of ids = first_of (base_of ids.link ids.tag) ids.queue

-- what is left once that was given: all but the front serial
abbrev pub without_next : LocalIds → LocalIds
without_next ids = record ids { queue = drop 1 ids.queue }

-- the identifier is one of the link and the tag, and it was given and didn't come back: its serial isn't in the queue
abbrev pub IsGiven : LocalIds → ℕ → Type 0
IsGiven ids local =
    (serial : ℕ) × (0 < serial) × (serial ≤ last_serial)
    × (local ≡ identifier (base_of ids.link ids.tag) serial) × (is_free serial ids.queue ≡ false)

-- the serial of an identifier comes back, after all others
abbrev pub with_returned : LocalIds → ℕ → LocalIds
with_returned ids local = record ids { queue = ids.queue ++ serial_of local ∷ [] }

-- what the type of local identifiers keeps, of the link, of the tag, of how many serials were given for the first time,
-- and of those that came back and may be given again
pub record IsKept (link tag fresh : ℕ) (returned : List ℕ) (capacity : ℕ) : Type 0 where
  pub links : link < 8
  pub tags : tag ≤ last_tag
  pub most : fresh ≤ last_serial
  -- those are serials that were given, none of them twice
  pub distinct : IsDistinct nat_eq returned
  pub given : (serial : ℕ) → is_free serial returned ≡ true → (0 < serial) × (serial ≤ fresh)
  -- there is memory for all serials
  pub places : last_serial ≤ capacity
