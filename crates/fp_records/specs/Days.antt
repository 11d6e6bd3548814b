-- A set of weekdays: for each day from Monday to Sunday, whether it is one of them.
use Rattle.std.specs.Prelude.{ℕ, List, [], ◌∷◌, Bool, true, ◌&&◌, ◌==◌, Option, Some, None, length, nat_lt, nat_le, if◌then◌else◌}
use Rattle.std.specs.List.{list_all, list_any}

-- digits up to 7, each of them above the one before
abbrev pub rising_from : ℕ → List ℕ → Bool
rising_from last [] = true
rising_from last (octet ∷ octets) = nat_lt last octet && (nat_le octet 55 && rising_from octet octets)

-- one or more of the digits 1 to 7, rising
abbrev pub is_days : List ℕ → Bool
is_days text = nat_lt 0 (length text) && rising_from 48 text

-- whether a text has an octet
abbrev pub has_octet : List ℕ → ℕ → Bool
has_octet text octet = list_any (λ other. other == octet) text

-- the days whose digits a text has, 1 for Monday
abbrev pub marked_days : List ℕ → List Bool
marked_days text =
    has_octet text 49 ∷ has_octet text 50 ∷ has_octet text 51 ∷ has_octet text 52 ∷ has_octet text 53 ∷ has_octet text 54 ∷ has_octet text 55 ∷ []

-- the days that a text writes
abbrev pub days_of : List ℕ → Option (List Bool)
days_of text = if is_days text then Some (marked_days text) else None

-- all seven
abbrev pub has_every_day : List Bool → Bool
has_every_day days = list_all (λ held. held) days
