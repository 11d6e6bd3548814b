-- What a rule does with a call.
use Rattle.std.specs.Prelude.{ℕ, List, [], Option, Some, None, drop, get_or}
use Rattle.fp_records.specs.declared.action.Destinations.{Destinations}
use Rattle.fp_records.specs.declared.action.Destinations.TheVariants.{One, Two, Three, Four}

-- the digits of one to four destinations, the first one first
abbrev pub destinations_in : Destinations → List (List ℕ)
destinations_in (One places) = places
destinations_in (Two places) = places
destinations_in (Three places) = places
destinations_in (Four places) = places

-- the first of the destinations
abbrev pub first_of : Destinations → List ℕ
first_of (One places) = get_or places 0 []
first_of (Two places) = get_or places 0 []
first_of (Three places) = get_or places 0 []
first_of (Four places) = get_or places 0 []

-- the destinations after the first, in the same order
abbrev pub rest_of : Destinations → Option Destinations
rest_of (One places) = None
rest_of (Two places) = Some (One (drop 1 places))
rest_of (Three places) = Some (Two (drop 1 places))
rest_of (Four places) = Some (Three (drop 1 places))

-- the digits of the destinations that are left, the first one first
abbrev pub destinations_left : Option Destinations → List (List ℕ)
destinations_left None = []
destinations_left (Some destinations) = destinations_in destinations
