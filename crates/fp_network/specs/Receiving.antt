-- What becomes at a node of the octets of a connection.
use Rattle.std.specs.Prelude.{◌≡◌, ℕ, suc, Bool, true, false, ◌⊎◌, List, [], ◌++◌, length, map, Option, Some, None, is_some, option_map, slice_get}
use Rattle.fp_adaptor.specs.declared.adaptor.Outcome.{Outcome}
use Rattle.fp_adaptor.specs.declared.adaptor.Outcome.TheVariants as outcomes
use Rattle.fp_adaptor.specs.declared.setting.Setting.{Setting}
use Rattle.fp_adaptor.specs.Adaptor.{Comes, Led, Receives}
use Rattle.fp_adaptor.specs.Counted.{one_more}
use Rattle.fp_adaptor.specs.History.{Event}
use Rattle.fp_ipa.specs.declared.fault.IpaFault.{IpaFault}
use Rattle.fp_ipa.specs.declared.fault.IpaFault.TheVariants as faults
use Rattle.fp_ipa.specs.declared.message.IpaMessage.{IpaMessage}
use Rattle.fp_ipa.specs.Stream.{FaultSays, HandsOut, Messages}
use Rattle.fp_ipa.specs.View.{message_value}
use Rattle.fp_network.specs.declared.arrival.Arrival.{Arrival}
use Rattle.fp_network.specs.declared.arrival.Arrival.TheVariants.{Active, Close, Nothing, Skipped, UnitData}
use Rattle.fp_network.specs.declared.connection.Connection.{Connection}
use Rattle.fp_network.specs.declared.event.Closing.TheVariants.{Replaced, TooLong}
use Rattle.fp_network.specs.declared.node.Node.{Node}
use Rattle.fp_network.specs.Changes.{sending}
use Rattle.fp_network.specs.Counting.{Counts, active_by}
use Rattle.fp_network.specs.Course.{closing_of}
use Rattle.fp_network.specs.Endings.{ClosesOnly}
use Rattle.fp_network.specs.Node.{Keeps, LeavesLink, LeavesOthers, connection_in, ended_at, ended_unless, for_link, frames_for, is_over_at}
use Rattle.fp_network.specs.Stepping.{ArrivesIn}

-- nothing changes but the connection in a place
pub record OnlyAt (place : ℕ) (old new : Node) : Type 0 where
  pub others : LeavesOthers place old new
  pub link : LeavesLink old new
  pub adaptor : new.adaptor ≡ old.adaptor
  pub tally : new.tally ≡ old.tally
  pub news : new.news ≡ old.news

-- no message is skipped
abbrev pub SkipsNone : Node → Node → Type 0
SkipsNone old new = new.tally.skipped ≡ old.tally.skipped

-- octets are to be read after those that are
abbrev pub feeding : List ℕ → Connection → Connection
feeding octets own = record own { reader = own.reader ++ octets }

abbrev pub reader_of : Option Connection → List ℕ
reader_of None = []
reader_of (Some own) = own.reader

-- the next message of a connection is read, if there is one; none of one that is to be closed
abbrev pub NextIf : Bool → Connection → Option Connection → Option IpaMessage → Type 0
NextIf true old new message = (new ≡ Some old) × (message ≡ None)
NextIf false old new message =
    (rest : List ℕ) × (new ≡ Some (record old { reader = rest }))
    × HandsOut old.reader rest (option_map message_value message)

abbrev pub NextIn : Option Connection → Option Connection → Option IpaMessage → Type 0
NextIn None new message = (new ≡ None) × (message ≡ None)
NextIn (Some old) new message = NextIf (is_some (closing_of old.course)) old new message

-- no next message can be read of a connection for this fault
abbrev pub FaultIn : Option Connection → IpaFault → Type 0
FaultIn None fault = ⊥
FaultIn (Some own) fault = FaultSays own.reader fault

-- the octets of an answer wait for the connection by which the message came; by any other outcome it is the same
abbrev pub answering : Outcome → Option Connection → Option Connection
answering (outcomes.Answered octets) own = option_map (sending octets.items) own
answering (outcomes.HandedOn frames) own = own
answering outcomes.Nothing own = own

-- what a message of these octets, by the connection in a place, comes to, and the events of it
abbrev pub ComesTo : Setting → List Event → ℕ → List ℕ → Arrival → Node → Node → List Event → Type 0
ComesTo setting history place octets Nothing old new more =
    (more ≡ []) × (new.places ≡ old.places) × (for_link new ≡ for_link old) × SkipsNone old new
ComesTo setting history place octets Skipped old new more =
    (more ≡ []) × (new.places ≡ old.places) × (for_link new ≡ for_link old)
    × (new.tally.skipped ≡ one_more old.tally.skipped)
ComesTo setting history place octets (Active unit) old new more =
    (earlier : Option ℕ) × (came : List Event) × Comes setting history place unit earlier came
    × (more ≡ ended_at old earlier ++ came) × (for_link new ≡ for_link old)
    × ClosesOnly Replaced earlier old new × SkipsNone old new
ComesTo setting history place octets UnitData old new more =
    (outcome : Outcome) × Receives setting history place octets outcome more
    × (for_link new ≡ for_link old ++ frames_for outcome)
    × (connection_in new place ≡ answering outcome (connection_in old place))
    × LeavesOthers place old new × SkipsNone old new
ComesTo setting history place octets (Close why) old new more =
    (more ≡ ended_unless (is_over_at old place) place) × (for_link new ≡ for_link old)
    × ClosesOnly why (Some place) old new × SkipsNone old new

abbrev pub Results : ℕ → List ℕ → Arrival → Node → Node → Type 0
Results place octets arrival old new =
    (setting : Setting) (history : List Event) → Led old.adaptor setting history
    → (more : List Event) × ComesTo setting history place octets arrival old new more
    × Led new.adaptor setting (more ++ history)

-- A message of the connection in a place: first the connection changes by it, and then this comes of it. Each connection
-- that the message closes has an event, and so has its own connection if it becomes active.
pub record Steps (setting : Setting) (history : List Event) (place : ℕ) (message : IpaMessage)
    (old new : Node) : Type 0 where
  pub between : Node
  pub arrival : Arrival
  pub arrives :
      ArrivesIn old.names.items old.is_draining message.stream message.octets
      (connection_in old place) (connection_in between place) arrival
  pub only : OnlyAt place old between
  pub more : List Event
  pub comes_to : ComesTo setting history place message.octets arrival between new more
  pub counts : Counts (active_by arrival between.names.items (connection_in between place)) between new
  pub keeps : Keeps old new
  pub led : Led new.adaptor setting (more ++ history)

-- the connection in a place has no next message; or the next one is too long, and it is closed
abbrev pub EndsAt : ℕ → Node → Node → List Event → Type 0
EndsAt place old new more =
    ((more ≡ []) × NextIn (connection_in old place) (connection_in new place) None
    × OnlyAt place old new)
    ⊎ (FaultIn (connection_in old place) faults.TooLong
    × (more ≡ ended_unless (is_over_at old place) place)
    × LeavesLink old new × ClosesOnly TooLong (Some place) old new × SkipsNone old new
    × Counts [] old new)

-- the next message, or the end
abbrev pub NextOrEnd : ℕ → Node → Node → Option IpaMessage → Type 0
NextOrEnd place old new (Some message) =
    NextIn (connection_in old place) (connection_in new place) (Some message) × OnlyAt place old new
NextOrEnd place old new None =
    (setting : Setting) (history : List Event) → Led old.adaptor setting history
    → (more : List Event) × EndsAt place old new more × Led new.adaptor setting (more ++ history)

-- the octets of a connection that weren't taken begin with these messages, and the rest is left
abbrev pub IsCut : ℕ → List IpaMessage → Node → Node → Type 0
IsCut place messages old new =
    Messages (reader_of (connection_in old place)) (map message_value messages) (reader_of (connection_in new place))

-- the next message of the connection in a place is this one, and its steps follow
abbrev pub TakesMessage : Setting → ℕ → IpaMessage → Node → List Event → Node → List Event → Type 0
TakesMessage setting place message old history new later =
    (next : Node) × NextOrEnd place old next (Some message)
    × (way : Steps setting history place message next new) × (later ≡ way.more ++ history)

-- These messages are taken one after another: there is a node, and the events that led to its adaptor, for each number
-- of messages, from the old node on. After the last message there is no next one.
pub record HearsEach (setting : Setting) (history : List Event) (place : ℕ)
    (messages : List IpaMessage) (old new : Node) : Type 0 where
  pub node : ℕ → Node
  pub events : ℕ → List Event
  pub first : (node 0 ≡ old) × (events 0 ≡ history)
  pub each :
      (count : ℕ) (message : IpaMessage) → slice_get messages count ≡ Some message
      → TakesMessage setting place message (node count) (events count) (node (suc count)) (events (suc count))
  pub last :
      (more : List Event) × EndsAt place (node (length messages)) new more
      × Led new.adaptor setting (more ++ events (length messages))

-- Octets came by the connection in a place, after those that were left. Each message with which these begin is taken,
-- in their order, until the next one isn't whole, or is too long, or the connection is to be closed. The rest is left.
abbrev pub Hearing : ℕ → List ℕ → Node → Node → Type 0
Hearing place octets old new =
    (setting : Setting) (history : List Event) → Led old.adaptor setting history
    → (fed : Node)
    × (connection_in fed place ≡ option_map (feeding octets) (connection_in old place))
    × OnlyAt place old fed
    × (messages : List IpaMessage) × IsCut place messages fed new
    × HearsEach setting history place messages fed new
