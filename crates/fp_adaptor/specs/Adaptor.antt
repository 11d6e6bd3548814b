-- What an adaptor answers to an event, by the events before it, and what it holds after them.
use Rattle.std.specs.Prelude.{◌≡◌, ℕ, ◌<◌, ◌≤◌, ◌⊎◌, List, [], ◌∷◌, Option, Some, None, option_map, length}
use Rattle.fp_ber.specs.Canon.{canon}
use Rattle.fp_q773.specs.ProviderAbort.{provider_abort}
use Rattle.fp_sccp.specs.declared.return_cause.ReturnCause.{ReturnCause}
use Rattle.fp_sccp.specs.Address.{HasSubsystem, subsystem}
use Rattle.fp_sccp.specs.Management.{Allows}
use Rattle.fp_sccp.specs.Value.{UnitDataValue}
use Rattle.fp_sccp.specs.Written.{Returns, unit_data_octets}
use Rattle.fp_adaptor.specs.declared.adaptor.Adaptor.{Adaptor}
use Rattle.fp_adaptor.specs.declared.adaptor.Outcome.{Outcome}
use Rattle.fp_adaptor.specs.declared.adaptor.Outcome.TheVariants as outcomes
use Rattle.fp_adaptor.specs.declared.adaptor.Sending.{Sending}
use Rattle.fp_adaptor.specs.declared.adaptor.Sending.TheVariants as sendings
use Rattle.fp_adaptor.specs.declared.counts.Counted.{Counted}
use Rattle.fp_adaptor.specs.declared.setting.Setting.{Setting}
use Rattle.fp_adaptor.specs.Connections.{IsFirst, IsHere, connection_at}
use Rattle.fp_adaptor.specs.Counted.{count_after, count_of}
use Rattle.fp_adaptor.specs.Dialogues.{IsForgotten}
use Rattle.fp_adaptor.specs.History.{Event, IsRead, Message, Sent, came, heard, managed, refused, returned, unreadable, by_connection, no_connection, too_long, connection_after, dialogue_after}
use Rattle.fp_adaptor.specs.Seen.{Sees}
use Rattle.fp_adaptor.specs.Verdict.{Judges, Verdict}
use Rattle.fp_adaptor.specs.Verdict as verdicts

-- what is held after these events
pub record Led (own : Adaptor) (setting : Setting) (history : List Event) : Type 0 where
  pub setting_is : own.setting ≡ setting
  pub units : length own.connections.places.items ≡ setting.units
  pub connections : (unit : ℕ) → connection_at own.connections.places.items unit ≡ connection_after history unit
  pub dialogues : Sees own.dialogues (dialogue_after history)
  pub counts : (what : Counted) → count_of own.counts what ≡ count_after history what

-- a connection comes for a unit: the earlier one of the unit is to be closed, or this one if there is no such unit
abbrev pub Comes : Setting → List Event → ℕ → ℕ → Option ℕ → List Event → Type 0
Comes setting history connection unit closed [] = (setting.units ≤ unit) × (closed ≡ Some connection)
Comes setting history connection unit closed (event ∷ more) =
    (unit < setting.units) × (closed ≡ connection_after history unit) × (event ≡ came connection unit) × (more ≡ [])

-- an Abort of the provider for a dialogue that isn't known (cause 1)
abbrev pub abort_octets : List ℕ → List ℕ
abort_octets local = canon (provider_abort local 1)

-- a message is handed on, after the Abort for the dialogue that the exchange forgot, if there is one
abbrev pub HandsOn : (List ℕ → Option (List ℕ)) → Message → Outcome → Type 0
HandsOn known message (outcomes.HandedOn frames) =
    (frames.message ≡ message.octets)
    × ((forgotten : Option (List ℕ)) × IsForgotten known message.kind message.originating forgotten
    × (frames.abort ≡ option_map abort_octets forgotten))
HandsOn known message outcome = ⊥

-- these octets, or none, are answered, and nothing is handed on
abbrev pub Replies : Outcome → Option (List ℕ) → Type 0
Replies (outcomes.HandedOn frames) octets = ⊥
Replies (outcomes.Answered octets) answer = answer ≡ Some octets.items
Replies outcomes.Nothing answer = answer ≡ None

-- a message to SCCP management is answered if it is a test for the subsystem of the node's own address
abbrev pub Manages : Setting → UnitDataValue → Outcome → Type 0
Manages setting value outcome =
    (HasSubsystem setting.own × ((answer : Option (List ℕ)) × Allows value (subsystem setting.own) answer × Replies outcome answer))
    ⊎ (¬ HasSubsystem setting.own × Replies outcome None)

-- a message that is refused is returned if its sender wants that
abbrev pub Refuses : UnitDataValue → ReturnCause → Outcome → Type 0
Refuses value cause outcome = (answer : Option (List ℕ)) × Returns value cause answer × Replies outcome answer

-- what comes of a message with this verdict
abbrev pub TakesJudged : Setting → List Event → Verdict → Outcome → Event → Type 0
TakesJudged setting history (verdicts.handed_on octets) outcome event =
    (message : Message) × IsRead octets message × (event ≡ heard message) × HandsOn (dialogue_after history) message outcome
TakesJudged setting history (verdicts.management value) outcome event = (event ≡ managed) × Manages setting value outcome
TakesJudged setting history (verdicts.refused value cause) outcome event =
    (event ≡ refused cause) × Refuses value cause outcome
TakesJudged setting history verdicts.returned outcome event = (event ≡ returned) × Replies outcome None
TakesJudged setting history (verdicts.unreadable fault) outcome event = (event ≡ unreadable) × Replies outcome None

-- data are handed on, and then this is held
abbrev pub HandedOnAt : Setting → List Event → List ℕ → Outcome → Adaptor → Type 0
HandedOnAt setting history octets outcome own =
    (message : Message) × IsRead octets message × HandsOn (dialogue_after history) message outcome
    × Led own setting (heard message ∷ history)

-- what comes of a message follows from its verdict
abbrev pub Takes : Setting → List Event → List ℕ → Outcome → Event → Type 0
Takes setting history octets outcome event =
    (verdict : Verdict) × Judges setting octets verdict × TakesJudged setting history verdict outcome event

-- what comes of a message that came by a connection: nothing, if no unit has the connection
abbrev pub Receives : Setting → List Event → ℕ → List ℕ → Outcome → List Event → Type 0
Receives setting history connection octets outcome [] =
    ¬ IsHere (connection_after history) connection × Replies outcome None
Receives setting history connection octets outcome (event ∷ more) =
    IsHere (connection_after history) connection × Takes setting history octets outcome event × (more ≡ [])

-- the most octets of data in a UDT
abbrev pub most_data : ℕ
most_data = 224

-- A message of the link goes out in one UDT of class 0, from the node's own address to that of the exchange, by the
-- connection of the first unit that has one.
abbrev pub Sends : Setting → List Event → List ℕ → Sending → Type 0
Sends setting history octets (sendings.By unit_data) =
    (length octets ≤ most_data) × IsFirst (connection_after history) (Some unit_data.connection)
    × (unit_data.octets.items ≡ unit_data_octets 0 setting.exchange setting.own octets)
Sends setting history octets sendings.NoConnection =
    (length octets ≤ most_data) × IsFirst (connection_after history) None
Sends setting history octets sendings.TooLong = most_data < length octets

-- what became of a message
abbrev pub what_became : Sending → Sent
what_became (sendings.By unit_data) = by_connection
what_became sendings.NoConnection = no_connection
what_became sendings.TooLong = too_long
