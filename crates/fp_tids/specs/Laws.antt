-- What holds of all local identifiers.
use Rattle.std.specs.Prelude.{◌≡◌, ℕ, ◌^◌, ◌<◌, ◌≤◌, List, [], ◌∷◌, ◌++◌, length, take, false}
use Rattle.fp_tids.specs.Identifiers.{AreSerials, all_serials, base_of, identifier, is_free, last_serial, last_tag, link_of, serial_of}

-- a link, a tag and a serial have an identifier
pub record HasIdentifier (link tag serial : ℕ) : Type 0 where
  pub links : link < 8
  pub tags : tag ≤ last_tag
  pub least : 0 < serial
  pub most : serial ≤ last_serial

-- identifiers of two links, of two tags or of two serials never meet
abbrev pub IdentifiersAreDistinct : Type 0
IdentifiersAreDistinct =
    (k l s t m n : ℕ) → HasIdentifier k s m → HasIdentifier l t n → identifier (base_of k s) m ≡ identifier (base_of l t) n
    → (k ≡ l) × (s ≡ t) × (m ≡ n)

-- each shows its link
abbrev pub LinksAreShown : Type 0
LinksAreShown =
    (link tag serial : ℕ) → HasIdentifier link tag serial → link_of (identifier (base_of link tag) serial) ≡ link

-- each shows its serial
abbrev pub SerialsAreShown : Type 0
SerialsAreShown =
    (link tag serial : ℕ) → 0 < serial → serial ≤ last_serial
    → serial_of (identifier (base_of link tag) serial) ≡ serial

-- each is above 0 and has 32 bits
abbrev pub IdentifiersHave32Bits : Type 0
IdentifiersHave32Bits =
    (link tag serial : ℕ) → HasIdentifier link tag serial
    → (0 < identifier (base_of link tag) serial) × (identifier (base_of link tag) serial < 2 ^ 32)

-- all serials are serials, none of them twice, and there are 131,072 of them
abbrev pub AllAreSerials : Type 0
AllAreSerials = AreSerials all_serials × (length all_serials ≡ last_serial)

-- to give the front one leaves serials, none of them twice, and the one that was given isn't among them
abbrev pub GivingLeavesSerials : Type 0
GivingLeavesSerials =
    (serial : ℕ) (serials : List ℕ) → AreSerials (serial ∷ serials)
    → (0 < serial) × (serial ≤ last_serial) × (is_free serial serials ≡ false) × AreSerials serials

-- putting one at the back leaves serials, none of them twice
abbrev pub ReturningKeepsSerials : Type 0
ReturningKeepsSerials =
    (serial : ℕ) (serials : List ℕ) → 0 < serial → serial ≤ last_serial → is_free serial serials ≡ false
    → AreSerials serials → AreSerials (serials ++ serial ∷ [])

-- one that comes back is not among the next that are given, as many as there were in the queue, whatever comes back
-- after it
abbrev pub SerialsComeBackLast : Type 0
SerialsComeBackLast =
    (queue more : List ℕ) (serial n : ℕ) → is_free serial queue ≡ false → n ≤ length queue
    → is_free serial (take n (queue ++ serial ∷ more)) ≡ false
