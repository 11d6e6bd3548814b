-- Which connections a call closes, what its adaptor has of them, and for which reasons they are closed.
use Rattle.std.specs.Prelude.{◌≡◌, ℕ, ◌==◌, Bool, true, false, not, ◌&&◌, ◌||◌, ◌⊎◌, List, [], ◌∷◌, ◌++◌, Option, Some, None}
use Rattle.std.specs.Option.{option_map}
use Rattle.fp_adaptor.specs.declared.adaptor.Adaptor.{Adaptor}
use Rattle.fp_adaptor.specs.declared.setting.Setting.{Setting}
use Rattle.fp_adaptor.specs.Adaptor.{Comes, Led}
use Rattle.fp_adaptor.specs.History.{Event, connection_after, ended}
use Rattle.fp_network.specs.declared.event.Closing.{Closing}
use Rattle.fp_network.specs.declared.event.Closing.TheVariants.{Replaced}
use Rattle.fp_network.specs.declared.node.Node.{Node}
use Rattle.fp_network.specs.Changes.{closing}
use Rattle.fp_network.specs.Node.{LeavesOthers, connection_in, ended_at, is_over_at, refusal_of}

-- in each of these events a connection is over
abbrev pub AreEnded : List Event → Type 0
AreEnded [] = Unit {0}
AreEnded (ended connection ∷ more) = AreEnded more
AreEnded (event ∷ more) = ⊥

-- the connection in a place is over in one of these events
abbrev pub ends : ℕ → List Event → Bool
ends place [] = false
ends place (ended other ∷ more) = (other == place) || ends place more
ends place (event ∷ more) = ends place more

-- in these events exactly the connections are over that weren't to be closed and are now, and none is open again
pub record Closes (old new : Node) (closed : List Event) : Type 0 where
  pub are_ended : AreEnded closed
  pub those : (place : ℕ) → ends place closed ≡ (not (is_over_at old place) && is_over_at new place)
  pub stay : (place : ℕ) → is_over_at old place ≡ true → is_over_at new place ≡ true

-- each connection that a unit has is there, and isn't to be closed
abbrev pub IsTied : Node → List Event → Type 0
IsTied node history =
    (unit place : ℕ) → connection_after history unit ≡ Some place → is_over_at node place ≡ false

-- A call keeps nodes tied: if one was after the events that led to its adaptor, the one after the call is after all events
-- that lead to its own.
abbrev pub KeepsTied : Node → Node → Type 0
KeepsTied old new =
    (setting : Setting) (history later : List Event) → Led old.adaptor setting history
    → IsTied old history → Led new.adaptor setting later → IsTied new later

-- what an adaptor holds after these events, if it held what other events led to
abbrev pub Adds : Adaptor → Adaptor → List Event → Type 0
Adds old new more =
    (setting : Setting) (history : List Event) → Led old setting history
    → Led new setting (more ++ history)

-- connections are closed, and the adaptor has exactly those as over
abbrev pub EndsClosed : Node → Node → Type 0
EndsClosed old new =
    (closed : List Event) × Closes old new closed × Adds old.adaptor new.adaptor closed

-- the connection in a place, if one is given, is closed for this reason, and all others are the same
abbrev pub ClosesOnly : Closing → Option ℕ → Node → Node → Type 0
ClosesOnly why None old new = (place : ℕ) → connection_in new place ≡ connection_in old place
ClosesOnly why (Some place) old new =
    (connection_in new place ≡ option_map (closing why) (connection_in old place))
    × LeavesOthers place old new

-- a connection came for a unit, and after that the one that is to be closed for it is over: it is replaced
abbrev pub Activates : ℕ → ℕ → Node → Setting → List Event → Node → Type 0
Activates place unit old setting history new =
    (closed : Option ℕ) × (more : List Event) × Comes setting history place unit closed more
    × Led new.adaptor setting (ended_at old closed ++ (more ++ history))
    × ClosesOnly Replaced closed old new

-- each connection is the same, or it takes no message of the link and is closed for that reason
abbrev pub IsRefused : Node → Node → ℕ → Type 0
IsRefused old new place =
    (why : Closing) × (refusal_of (connection_in old place) ≡ Some why)
    × (connection_in new place ≡ option_map (closing why) (connection_in old place))

abbrev pub ClosesRefused : Node → Node → Type 0
ClosesRefused old new =
    (place : ℕ) → (connection_in new place ≡ connection_in old place) ⊎ IsRefused old new place
