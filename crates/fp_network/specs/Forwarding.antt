-- What becomes of a message of the link at a node.
use Rattle.std.specs.Prelude.{◌≡◌, ℕ, ◌<◌, false, List, [], ◌∷◌, ◌++◌, None, Some, length}
use Rattle.std.specs.Option.{option_map}
use Rattle.fp_adaptor.specs.declared.adaptor.Sending.{Sending}
use Rattle.fp_adaptor.specs.declared.adaptor.Sending.TheVariants as sendings
use Rattle.fp_adaptor.specs.declared.setting.Setting.{Setting}
use Rattle.fp_adaptor.specs.Adaptor.{Led, Sends, most_data, what_became}
use Rattle.fp_adaptor.specs.Connections.{IsFirst}
use Rattle.fp_adaptor.specs.History.{Event, IsRead, Message, connection_after, ended, said}
use Rattle.fp_frames.specs.Stream.{Frames, IsBad, IsIncomplete}
use Rattle.fp_network.specs.declared.fault.NetworkFault.{NetworkFault}
use Rattle.fp_network.specs.declared.fault.NetworkFault.TheVariants as faults
use Rattle.fp_network.specs.declared.node.Node.{Node}
use Rattle.fp_network.specs.Changes.{sending}
use Rattle.fp_network.specs.Endings.{Adds, Closes, ClosesRefused, IsTied}
use Rattle.fp_network.specs.Node.{LeavesOthers, WaitsOn, connection_in, is_over_at, refusal_of}

-- the octets of a message that is sent wait for the connection that is named, and nothing waits for any other
abbrev pub Puts : Sending → Node → Node → Type 0
Puts (sendings.By unit_data) old new =
    (connection_in new unit_data.connection
    ≡ option_map (sending unit_data.octets.items) (connection_in old unit_data.connection))
    × LeavesOthers unit_data.connection old new
Puts sendings.NoConnection old new = (place : ℕ) → connection_in new place ≡ connection_in old place
Puts sendings.TooLong old new = (place : ℕ) → connection_in new place ≡ connection_in old place

-- the connection to which a message goes is there, isn't to be closed, and takes messages
abbrev pub Takes : Sending → Node → Type 0
Takes (sendings.By unit_data) node =
    (is_over_at node unit_data.connection ≡ false)
    × (refusal_of (connection_in node unit_data.connection) ≡ None)
Takes sendings.NoConnection node = Unit {0}
Takes sendings.TooLong node = Unit {0}

-- Connections were over one after another, the last one first, after the events of a history: each was the one by which a
-- message would have gone then.
abbrev pub InTheWay : List Event → List Event → Type 0
InTheWay history [] = Unit {0}
InTheWay history (ended place ∷ earlier) =
    IsFirst (connection_after (earlier ++ history)) (Some place) × InTheWay history earlier
InTheWay history (event ∷ earlier) = ⊥

-- connections are closed, and each was in the way of a message
abbrev pub MakesWay : Node → Node → Type 0
MakesWay old new =
    (closed : List Event) × Closes old new closed × Adds old.adaptor new.adaptor closed
    × ((setting : Setting) (history : List Event) → Led old.adaptor setting history
    → InTheWay history closed)

-- connections are closed, and each was in the way of this message; none is in the way of one that is too long to be sent
abbrev pub MakesWayFor : List ℕ → Node → Node → Type 0
MakesWayFor message old new =
    (way : MakesWay old new) × (most_data < length message → way.0 ≡ [])

-- A message of the link goes where its adaptor sends it, after connections that take none are closed: those by which it
-- would have gone, and no others. For a message that is too long to be sent none is closed. The units and whether the
-- node drains stay the same.
pub record Forwards (setting : Setting) (history : List Event) (message : List ℕ)
    (old new : Node) : Type 0 where
  pub closed : List Event
  pub between : Node
  pub closes : Closes old between closed
  pub way : InTheWay history closed
  pub too_long : most_data < length message → closed ≡ []
  pub refused : ClosesRefused old between
  pub rest : WaitsOn old between
  pub sent : Sending
  pub sends : Sends setting (closed ++ history) message sent
  pub takes : setting.units ≡ length old.names.items → IsTied old history → Takes sent between
  pub puts : Puts sent between new
  pub read : Message
  pub is_read : IsRead message read
  pub led : Led new.adaptor setting (said read (what_became sent) ∷ (closed ++ history))
  pub names : new.names.items ≡ old.names.items
  pub draining : new.is_draining ≡ old.is_draining

-- messages of the link are forwarded one after another
abbrev pub ForwardsEach : Setting → List Event → List (List ℕ) → Node → Node → Type 0
ForwardsEach setting history [] old new =
    (new.places ≡ old.places) × (new.names.items ≡ old.names.items)
    × (new.is_draining ≡ old.is_draining) × Led new.adaptor setting history
ForwardsEach setting history (message ∷ more) old new =
    (mid : Node) × (way : Forwards setting history message old mid)
    × ForwardsEach setting (said way.read (what_became way.sent) ∷ (way.closed ++ history))
    more mid new

-- Octets came from the link. The message of each frame that is there whole is forwarded, in their order; the octets
-- after these frames begin with no whole one, and stay.
abbrev pub ForwardsOctets : List ℕ → Node → Node → Type 0
ForwardsOctets octets old new =
    (messages : List (List ℕ)) × Frames (old.from_link ++ octets) messages new.from_link
    × IsIncomplete new.from_link
    × ((setting : Setting) (history : List Event) → Led old.adaptor setting history
    → ForwardsEach setting history messages old new)

-- why the next message of the link isn't taken from octets: memory ran out, or they begin with the head of no frame
abbrev pub StopsBefore : List ℕ → NetworkFault → Type 0
StopsBefore octets faults.Memory = Unit {0}
StopsBefore octets faults.BadFrames = IsBad octets
StopsBefore octets faults.NoReadiness = ⊥

-- why octets of the link aren't all taken: they are the frames of some messages, and then octets from which no message
-- is taken for this fault
abbrev pub StopsIn : List ℕ → NetworkFault → Type 0
StopsIn octets fault =
    (messages : List (List ℕ)) × (rest : List ℕ) × Frames octets messages rest × StopsBefore rest fault
