-- How the connections that a call closes are counted, and how these and those that become active are reported.
use Rattle.std.specs.Prelude.{◌≡◌, ℕ, ◌≤◌, Bool, true, false, List, [], ◌∷◌, ◌++◌, ◌⊎◌, Option, Some, None, length, slice_get}
use Rattle.std.specs.List.{flat_map, range_with_len}
use Rattle.std.specs.List.Sorted.{IsPermutation}
use Rattle.std.specs.VecDeque.{deque_capacity}
use Rattle.fp_network.specs.declared.arrival.Arrival.{Arrival}
use Rattle.fp_network.specs.declared.arrival.Arrival.TheVariants as arrivals
use Rattle.fp_network.specs.declared.connection.Connection.{Connection}
use Rattle.fp_network.specs.declared.course.Course.{Course}
use Rattle.fp_network.specs.declared.event.Closing.{Closing}
use Rattle.fp_network.specs.declared.event.Closing.TheVariants.{TooMany}
use Rattle.fp_network.specs.declared.event.NetworkEvent.{NetworkEvent}
use Rattle.fp_network.specs.declared.event.NetworkEvent.TheVariants.{Active, Gone}
use Rattle.fp_network.specs.declared.node.Node.{Node}
use Rattle.fp_network.specs.Course.{closing_of}
use Rattle.fp_network.specs.Node.{connection_in, is_over_at}
use Rattle.fp_network.specs.Tally.{closed_once_more, closings_of}

-- how far the connection in a place is from its end, if there is one
abbrev pub course_of : Option Connection → Option Course
course_of None = None
course_of (Some own) = Some own.course

abbrev pub course_at : Node → ℕ → Option Course
course_at node place = course_of (connection_in node place)

-- the number for a reason once each closing among these events is counted
abbrev pub counted_for : Closing → List NetworkEvent → ℕ → ℕ
counted_for why [] count = count
counted_for why (Gone number other ∷ events) count =
    counted_for why events (closed_once_more other why count)
counted_for why (event ∷ events) count = counted_for why events count

-- The events that weren't returned are still the next ones, and others may follow them. The room never shrinks.
pub record NewsGrow (old new : Node) : Type 0 where
  pub more : List NetworkEvent
  pub grow : new.news.items ≡ old.news.items ++ more
  pub room : deque_capacity old.news ≤ deque_capacity new.news

-- The events fill the room that there was before a call. One more takes memory, and is missing if that runs out.
abbrev pub FillsRoom : Node → Node → Type 0
FillsRoom old new = deque_capacity old.news ≤ length new.news.items

-- these are some of the events, in their order
abbrev pub AreSome : List NetworkEvent → List NetworkEvent → Type 0
AreSome [] events = Unit {0}
AreSome (some ∷ more) [] = ⊥
AreSome (some ∷ more) (event ∷ events) =
    ((some ≡ event) × AreSome more events) ⊎ AreSome (some ∷ more) events

-- These events follow those that weren't returned, in their order. One is missing only if the room is full.
pub record Notes (events : List NetworkEvent) (old new : Node) : Type 0 where
  pub grows : NewsGrow old new
  pub some : AreSome grows.more events
  pub all : (grows.more ≡ events) ⊎ FillsRoom old new

-- the event of a connection of this number, if it is to be closed for a reason
abbrev pub gone_for : ℕ → Option Closing → List NetworkEvent
gone_for number None = []
gone_for number (Some why) = Gone number why ∷ []

-- the event of a connection once a call closed it, unless it was to be closed before
abbrev pub gone_if : Bool → Option Connection → List NetworkEvent
gone_if true own = []
gone_if false None = []
gone_if false (Some own) = gone_for own.number (closing_of own.course)

abbrev pub gone_at : Node → Node → ℕ → List NetworkEvent
gone_at old new place = gone_if (is_over_at old place) (connection_in new place)

-- those of this number of places, in the order of the places
abbrev pub gone_below : ℕ → Node → Node → List NetworkEvent
gone_below count old new = flat_map (gone_at old new) (range_with_len 0 count)

-- each connection that a call closes is reported, in the order of the places, and nothing else is
abbrev pub ReportsEach : Node → Node → Type 0
ReportsEach old new = Notes (gone_below (length old.places.items) old new) old new

-- the event of a connection that carries messages for a unit from now on, if both are there
abbrev pub active_for : ℕ → Option (List ℕ) → List NetworkEvent
active_for number None = []
active_for number (Some unit) = Active number unit ∷ []

abbrev pub active_of : List (List ℕ) → ℕ → Option Connection → List NetworkEvent
active_of names unit None = []
active_of names unit (Some own) = active_for own.number (slice_get names unit)

-- the event of a connection that becomes active by a message, if it does
abbrev pub active_by : Arrival → List (List ℕ) → Option Connection → List NetworkEvent
active_by (arrivals.Active unit) names own = active_of names unit own
active_by arrivals.Nothing names own = []
active_by arrivals.Skipped names own = []
active_by arrivals.UnitData names own = []
active_by (arrivals.Close why) names own = []

-- each of these events reports a connection as active
abbrev pub AreActive : List NetworkEvent → Type 0
AreActive [] = Unit {0}
AreActive (Active number unit ∷ events) = AreActive events
AreActive (event ∷ events) = ⊥

-- a connection of this number got no place, so that it is over at once
abbrev pub gone_unless : ℕ → Option ℕ → List NetworkEvent
gone_unless number None = Gone number TooMany ∷ []
gone_unless number (Some place) = []

-- the number of a connection, if there is one
abbrev pub number_of : Option Connection → Option ℕ
number_of None = None
number_of (Some own) = Some own.number

-- The events of a call, in some order: one for each connection that it closes, with the number and the reason, and the
-- given ones of connections that become active. Each closing is counted for its reason. A connection that was to be
-- closed before still is, for the same reason. No connection comes, and each keeps its number.
pub record Counts (active : List NetworkEvent) (old new : Node) : Type 0 where
  pub events : List NetworkEvent
  pub news : Notes events old new
  pub once : IsPermutation (active ++ gone_below (length old.places.items) old new) events
  pub each :
      (why : Closing) → closings_of new.tally why ≡ counted_for why events (closings_of old.tally why)
  pub stay : (place : ℕ) → is_over_at old place ≡ true → course_at new place ≡ course_at old place
  pub connections : new.tally.connections ≡ old.tally.connections
  pub numbers : (place : ℕ) → number_of (connection_in new place) ≡ number_of (connection_in old place)

-- a call that takes messages also has events of connections that become active; `Steps` says which
abbrev pub CountsActive : Node → Node → Type 0
CountsActive old new = (active : List NetworkEvent) × AreActive active × Counts active old new
