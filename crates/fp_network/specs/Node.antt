-- What a node shows: the connection in each place, what waits to be written to it, and what waits for the link; and how a
-- call changes these.
use Rattle.std.specs.Prelude.{◌≡◌, ◌≢◌, ◌<◌, ◌==◌, ℕ, Bool, true, false, not, ◌&&◌, if◌then◌else◌, List, [], ◌∷◌, ◌++◌, Option, Some, None, get_or, is_none, is_some, length}
use Rattle.std.specs.List.{flat_map}
use Rattle.std.specs.Option.{option_map}
use Rattle.fp_adaptor.specs.declared.adaptor.HandedOn.{HandedOn}
use Rattle.fp_adaptor.specs.declared.adaptor.Outcome.{Outcome}
use Rattle.fp_adaptor.specs.declared.adaptor.Outcome.TheVariants as outcomes
use Rattle.fp_adaptor.specs.declared.setting.Setting.{Setting}
use Rattle.fp_adaptor.specs.Connections.{IsFirst}
use Rattle.fp_adaptor.specs.History.{Event, connection_after, ended}
use Rattle.fp_ipa.specs.declared.connection.State.TheVariants.{Asked}
use Rattle.fp_network.specs.declared.connection.Connection.{Connection}
use Rattle.fp_network.specs.declared.course.Course.TheVariants.{Open}
use Rattle.fp_network.specs.declared.event.Closing.{Closing}
use Rattle.fp_network.specs.declared.node.Node.{Node}
use Rattle.fp_network.specs.declared.plan.Plan.{Plan}
use Rattle.fp_network.specs.Changes.{is_read_out, refusal}
use Rattle.fp_network.specs.Connection.{is_of_common}
use Rattle.fp_network.specs.Course.{closing_of, is_draining, is_late, overdue}
use Rattle.fp_network.specs.Frames.{frames_of}
use Rattle.fp_network.specs.Units.{own_first}

-- the octets that wait for the link
abbrev pub for_link : Node → List ℕ
for_link node = node.to_link

-- the connection in a place
abbrev pub connection_at : List (Option Connection) → ℕ → Option Connection
connection_at places place = get_or places place None

abbrev pub connection_in : Node → ℕ → Option Connection
connection_in node place = connection_at node.places.items place

-- the octets that wait for a connection
abbrev pub waiting_of : Option Connection → List ℕ
waiting_of None = []
waiting_of (Some connection) = connection.waiting

abbrev pub waiting_at : Node → ℕ → List ℕ
waiting_at node place = waiting_of (connection_in node place)

-- a connection is to be closed, or there is none
abbrev pub is_over_of : Option Connection → Bool
is_over_of None = true
is_over_of (Some connection) = is_some (closing_of connection.course)

abbrev pub is_over_at : Node → ℕ → Bool
is_over_at node place = is_over_of (connection_in node place)

-- the writing side of a connection is to be shut
abbrev pub is_draining_of : Option Connection → Bool
is_draining_of None = false
is_draining_of (Some connection) = is_draining connection.course

abbrev pub is_draining_at : Node → ℕ → Bool
is_draining_at node place = is_draining_of (connection_in node place)

-- something waits for a connection, and it isn't to be closed
abbrev pub has_waiting_of : Option Connection → Bool
has_waiting_of connection = if is_over_of connection then false else not (length (waiting_of connection) == 0)

-- why a connection is to be closed at this time, if there is one and time is over for it
abbrev pub overdue_of : ℕ → Option Connection → Option Closing
overdue_of at None = None
overdue_of at (Some own) = overdue own.course own.state own.came_at at

-- its node drains for two seconds, and it isn't to be closed
abbrev pub is_late_of : ℕ → Option Connection → Bool
is_late_of at None = false
is_late_of at (Some own) = is_late own.course at

-- it is closed by a read that ends at this time
abbrev pub is_read_out_of : ℕ → Bool → Option Connection → Bool
is_read_out_of at found_no_more None = false
is_read_out_of at found_no_more (Some own) = is_read_out at found_no_more own

-- it has the common unit, or may get it, and isn't to be closed
abbrev pub has_common_of : ℕ → Option Connection → Bool
has_common_of units None = false
has_common_of units (Some own) = not (is_some (closing_of own.course)) && is_of_common units own.state

-- why a connection takes no message of the link, if there is one that doesn't
abbrev pub refusal_of : Option Connection → Option Closing
refusal_of None = None
refusal_of (Some own) = refusal own

-- all places are taken; this one is free
abbrev pub IsFull : Node → Type 0
IsFull node = (place : ℕ) → place < length node.places.items → is_none (connection_in node place) ≡ false

abbrev pub IsFree : Node → ℕ → Type 0
IsFree node place = (place < length node.places.items) × (is_none (connection_in node place) ≡ true)

-- A connection that came at this time: nothing came by it yet, and it is asked for the name of a unit (ID_GET).
abbrev pub IsNew : ℕ → Option Connection → Type 0
IsNew at None = ⊥
IsNew at (Some connection) =
    (connection.state ≡ Asked) × (connection.course ≡ Open) × (connection.came_at ≡ at) × (connection.reader ≡ [])
    × (connection.waiting ≡ 0 ∷ 3 ∷ 254 ∷ 4 ∷ 1 ∷ 1 ∷ []) × (connection.reads_left ≡ 2048)

-- the connections in all other places are the same
abbrev pub LeavesOthers : ℕ → Node → Node → Type 0
LeavesOthers place old new = (other : ℕ) → other ≢ place → connection_in new other ≡ connection_in old other

-- a connection came and got a place that was free; or none is
abbrev pub Came : ℕ → Node → Node → Option ℕ → Type 0
Came at old new (Some place) =
    IsFree old place × IsNew at (connection_in new place) × LeavesOthers place old new
Came at old new None = IsFull old × ((place : ℕ) → connection_in new place ≡ connection_in old place)

-- each connection is changed so
abbrev pub ChangesEach : (Connection → Connection) → Node → Node → Type 0
ChangesEach change old new = (place : ℕ) → connection_in new place ≡ option_map change (connection_in old place)

-- what waits in each place stays, and more may wait after it
pub record Stays (old new : ℕ → List ℕ) : Type 0 where
  pub each : (place : ℕ) → (more : List ℕ) × (new place ≡ old place ++ more)

abbrev pub WaitsOn : Node → Node → Type 0
WaitsOn old new = Stays (waiting_at old) (waiting_at new)

-- the octets that come from the link and go to it, the units, the number of places, and whether the node drains stay the
-- same
pub record LeavesLink (old new : Node) : Type 0 where
  pub for_link : new.to_link ≡ old.to_link
  pub from_link : new.from_link ≡ old.from_link
  pub names : new.names.items ≡ old.names.items
  pub draining : new.is_draining ≡ old.is_draining
  pub count : length new.places.items ≡ length old.places.items

-- The writing side of a connection is to be shut: its node drains, nothing waits for it, and what the link sends goes by
-- another one.
abbrev pub IsToShut : Node → List Event → ℕ → Type 0
IsToShut node history place =
    (is_draining_at node place ≡ true) × (length (waiting_at node place) ≡ 0)
    × ((other : ℕ) × (other ≢ place) × IsFirst (connection_after history) (Some other))

-- the octets that come from the link, the units, whether the node drains, and the number of places stay the same
pub record Keeps (old new : Node) : Type 0 where
  pub from_link : new.from_link ≡ old.from_link
  pub names : new.names.items ≡ old.names.items
  pub draining : new.is_draining ≡ old.is_draining
  pub count : length new.places.items ≡ length old.places.items

-- a connection that wasn't to be closed already is over
abbrev pub ended_unless : Bool → ℕ → List Event
ended_unless true place = []
ended_unless false place = ended place ∷ []

abbrev pub ended_at : Node → Option ℕ → List Event
ended_at node None = []
ended_at node (Some place) = ended_unless (is_over_at node place) place

-- the setting of the adaptor of a node
abbrev pub setting_of : Plan → Setting
setting_of plan = record { own = plan.own; exchange = plan.exchange; units = length (own_first plan.units.now) }

-- the octets for the link of what an adaptor answers to a message
abbrev pub frames_for : Outcome → List ℕ
frames_for (outcomes.HandedOn frames) = frames_of frames
frames_for (outcomes.Answered octets) = []
frames_for outcomes.Nothing = []

-- octets were followed by the frames of messages that were handed on, in their order
abbrev pub Grows : List ℕ → List ℕ → Type 0
Grows old new = (handed_on : List HandedOn) × (new ≡ old ++ flat_map frames_of handed_on)
