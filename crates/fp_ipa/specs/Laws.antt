-- What holds of all messages.
use Rattle.std.specs.Prelude.{◌≡◌, ℕ, List, ◌∷◌, ◌++◌}
use Rattle.fp_ipa.specs.declared.connection.State.TheVariants as states
use Rattle.fp_ipa.specs.declared.received.Received.{Received}
use Rattle.fp_ipa.specs.declared.received.Received.TheVariants as received
use Rattle.fp_ipa.specs.Connection.{state_after}
use Rattle.fp_ipa.specs.Identity.{SaysUnitName}
use Rattle.fp_ipa.specs.Message.{Message}
use Rattle.fp_ipa.specs.Stream.{Begins, IsBad, IsIncomplete, IsStream, Messages}

-- octets are at most one list of messages, and have at most one rest
abbrev pub StreamsAreOne : Type 0
StreamsAreOne =
    (octets : List ℕ) (ones others : List Message) (one other : List ℕ)
    → IsStream octets ones one → IsStream octets others other → (ones ≡ others) × (one ≡ other)

-- if a stream goes on, its messages go on with those of its rest and of the octets that follow
abbrev pub MessagesGoOn : Type 0
MessagesGoOn =
    (octets more rest behind : List ℕ) (first later : List Message)
    → Messages octets first rest → Messages (rest ++ more) later behind → Messages (octets ++ more) (first ++ later) behind

-- a message that is too long stays so, whatever follows
abbrev pub BadStaysBad : Type 0
BadStaysBad = (octets more : List ℕ) → IsBad octets → IsBad (octets ++ more)

-- octets that begin with a message that is too long begin with no other one
abbrev pub BadIsNoMessage : Type 0
BadIsNoMessage = (octets rest : List ℕ) (message : Message) → IsBad octets → ¬ IsIncomplete octets × ¬ Begins octets message rest

-- the contents of an ID_RESP say at most one unit name
abbrev pub UnitNamesAreOne : Type 0
UnitNamesAreOne =
    (contents one other : List ℕ) → SaysUnitName contents one → SaysUnitName contents other → one ≡ other

-- a connection is active only if its unit was named, and an acknowledgement came after that (the last message is first)
abbrev pub ActiveWasNamed : Type 0
ActiveWasNamed =
    (history : List Received) (unit : ℕ) → state_after history ≡ states.Active unit
    → (later : List Received) × (between : List Received) × (earlier : List Received)
    × (history ≡ later ++ received.Acknowledged ∷ (between ++ received.Named unit ∷ earlier))
