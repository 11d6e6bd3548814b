-- What happened to a link so far, the last event first, and what follows from it: the connection of each unit, and the
-- dialogues that are open.
use Rattle.std.specs.Prelude.{◌≡◌, ℕ, List, [], ◌∷◌, Option, None}
use Rattle.fp_q773.specs.declared.kind.Kind.{Kind}
use Rattle.fp_q773.specs.Ids.{AreIds}
use Rattle.fp_sccp.specs.declared.return_cause.ReturnCause.{ReturnCause}
use Rattle.fp_adaptor.specs.Connections.{placed, without}
use Rattle.fp_adaptor.specs.Dialogues.{after_heard, after_said, is_none}

-- a message of TCAP, its kind and its identifiers
pub record Message : Type 0 where
  pub octets : List ℕ
  pub kind : Kind
  pub originating : Option (List ℕ)
  pub destination : Option (List ℕ)

-- octets as a message: the kind and the identifiers are those of the octets
abbrev pub IsRead : List ℕ → Message → Type 0
IsRead octets message =
    (message.octets ≡ octets) × AreIds message.octets message.kind message.originating message.destination

-- what became of a message of the link
pub data Sent : Type 0 where
  by_connection : Sent
  no_connection : Sent
  too_long : Sent

-- An event: a connection came for a unit, or is over; a message came and was handed on, or one that was refused, was
-- for SCCP management, had been returned, or couldn't be read; a message of the link.
pub data Event : Type 0 where
  came : ℕ → ℕ → Event
  ended : ℕ → Event
  heard : Message → Event
  refused : ReturnCause → Event
  managed : Event
  returned : Event
  unreadable : Event
  said : Message → Sent → Event

-- the connection of a unit: the last one that came for it, unless it is over
abbrev pub connection_after : List Event → ℕ → Option ℕ
connection_after [] unit = None
connection_after (came connection other ∷ history) unit = placed connection other unit (connection_after history unit)
connection_after (ended connection ∷ history) unit = without connection (connection_after history unit)
connection_after (event ∷ history) unit = connection_after history unit

-- the exchange's identifier of the dialogue that the link knows by this one, if it is open
abbrev pub dialogue_after : List Event → List ℕ → Option (List ℕ)
dialogue_after [] local = is_none local
dialogue_after (heard message ∷ history) local =
    after_heard message.kind message.originating message.destination local (dialogue_after history local)
dialogue_after (said message sent ∷ history) local =
    after_said message.kind message.originating message.destination local (dialogue_after history local)
dialogue_after (event ∷ history) local = dialogue_after history local
