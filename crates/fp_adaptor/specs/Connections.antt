-- Which connection each unit has, as a function of the unit, and by which one a message goes.
use Rattle.std.specs.Prelude.{◌≡◌, ℕ, ◌<◌, ◌==◌, if◌then◌else◌, List, Option, Some, None, get_or}

-- the connections of units in a list
abbrev pub connection_at : List (Option ℕ) → ℕ → Option ℕ
connection_at places unit = get_or places unit None

-- a unit has this connection
abbrev pub IsHere : (ℕ → Option ℕ) → ℕ → Type 0
IsHere has connection = (unit : ℕ) × (has unit ≡ Some connection)

-- the connection of the first unit that has one
abbrev pub IsFirst : (ℕ → Option ℕ) → Option ℕ → Type 0
IsFirst has (Some connection) =
    (unit : ℕ) × (has unit ≡ Some connection) × ((before : ℕ) → before < unit → has before ≡ None)
IsFirst has None = (unit : ℕ) → has unit ≡ None

-- what a unit has once another one, or it, gets a connection
abbrev pub placed : ℕ → ℕ → ℕ → Option ℕ → Option ℕ
placed connection unit other had = if other == unit then Some connection else had

-- what a unit has once a connection is over
abbrev pub without : ℕ → Option ℕ → Option ℕ
without connection None = None
without connection (Some other) = if other == connection then None else Some other
