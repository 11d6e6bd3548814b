-- What becomes of a connection by a message.
use Rattle.std.specs.Prelude.{◌≡◌, ℕ, Bool, true, false, List, ◌++◌, Option, Some, None, length}
use Rattle.fp_ipa.specs.declared.received.Received.{Received}
use Rattle.fp_ipa.specs.declared.stream_identifier.StreamIdentifier.{StreamIdentifier}
use Rattle.fp_ipa.specs.Received.{Says}
use Rattle.fp_network.specs.declared.arrival.Arrival.{Arrival}
use Rattle.fp_network.specs.declared.arrival.Arrival.TheVariants.{Close, Nothing}
use Rattle.fp_network.specs.declared.connection.Connection.{Connection}
use Rattle.fp_network.specs.declared.event.Closing.TheVariants.{Slow}
use Rattle.fp_network.specs.Changes.{is_slow}
use Rattle.fp_network.specs.Connection.{arrival_by, state_for, step_action, why_closed}
use Rattle.fp_network.specs.Course.{octets_for}

-- A message of a stream came: the state after it, what waits to be written after it, and what it comes to. Nothing else
-- of the connection changes.
pub record Stepped (names : List (List ℕ)) (drains : Bool) (stream : StreamIdentifier)
    (octets : List ℕ) (old new : Connection) (arrival : Arrival) : Type 0 where
  pub what : Received
  pub says : Says names stream octets what
  pub same : new ≡ record old { state = new.state; waiting = new.waiting }
  pub state : new.state ≡ state_for drains (length names) old.state what
  pub writes :
      new.waiting
      ≡ old.waiting ++ octets_for old.course (step_action drains (length names) old.state what)
  pub comes_to :
      arrival ≡ arrival_by new.state (step_action drains (length names) old.state what)
      (why_closed drains (length names) what)

-- A message of a stream came. If a megabyte waits for the connection, it is to be closed, and nothing of it changes.
abbrev pub ArrivesIf :
    Bool → List (List ℕ) → Bool → StreamIdentifier → List ℕ → Connection → Connection → Arrival
    → Type 0
ArrivesIf true names drains stream octets old new arrival = (new ≡ old) × (arrival ≡ Close Slow)
ArrivesIf false names drains stream octets old new arrival =
    Stepped names drains stream octets old new arrival

abbrev pub Arrives :
    List (List ℕ) → Bool → StreamIdentifier → List ℕ → Connection → Connection → Arrival → Type 0
Arrives names drains stream octets old = ArrivesIf (is_slow old) names drains stream octets old

-- a message came by the connection in a place, if there is one
abbrev pub ArrivesIn :
    List (List ℕ) → Bool → StreamIdentifier → List ℕ → Option Connection → Option Connection
    → Arrival → Type 0
ArrivesIn names drains stream octets None new arrival = (new ≡ None) × (arrival ≡ Nothing)
ArrivesIn names drains stream octets (Some old) new arrival =
    (after : Connection) × (new ≡ Some after) × Arrives names drains stream octets old after arrival
