-- The messages of a stream of octets, however it is cut into reads: one after another, and then octets that begin with
-- no whole message.
use Rattle.std.specs.Prelude.{◌≡◌, ℕ, ◌+◌, ◌*◌, ◌<◌, ◌≤◌, ◌⊎◌, List, ◌++◌, Option, Some, None, length, take, drop, slice_index}
use Rattle.std.specs.List.{All, flat_map}
use Rattle.fp_ipa.specs.declared.fault.IpaFault.{IpaFault}
use Rattle.fp_ipa.specs.declared.fault.IpaFault.TheVariants.{TooLong, Memory}
use Rattle.fp_ipa.specs.Message.{IsTaken, Message, framed, most_octets}

-- the number of octets that the first two octets say
abbrev pub length_said : List ℕ → ℕ
length_said octets = slice_index octets 0 * 256 + slice_index octets 1

-- a message is first that is too long to be taken
abbrev pub IsBad : List ℕ → Type 0
IsBad octets = (3 ≤ length octets) × (most_octets < length_said octets)

-- no whole head is first, or the head of a message that isn't too long, and not all octets of it
abbrev pub IsIncomplete : List ℕ → Type 0
IsIncomplete octets =
    (length octets < 3) ⊎ ((length_said octets ≤ most_octets) × (length octets < 3 + length_said octets))

-- this message is first, and the rest follows it
pub record Begins (octets : List ℕ) (message : Message) (rest : List ℕ) : Type 0 where
  pub taken : IsTaken message
  pub whole : octets ≡ framed message ++ rest

-- octets are these messages, one after another, and the rest after them
pub record Messages (octets : List ℕ) (messages : List Message) (rest : List ℕ) : Type 0 where
  pub taken : All IsTaken messages
  pub whole : octets ≡ flat_map framed messages ++ rest

-- and the rest begins with no whole message
pub record IsStream (octets : List ℕ) (messages : List Message) (rest : List ℕ) : Type 0 where
  pub parts : Messages octets messages rest
  pub end : IsIncomplete rest ⊎ IsBad rest

-- the answer to asking for the next message: the one that is first; or none, and nothing changes
abbrev pub HandsOut : List ℕ → List ℕ → Option Message → Type 0
HandsOut old new (Some message) = Begins old message new
HandsOut old new None = IsIncomplete old × (new ≡ old)

-- why none is handed out: the first one is too long; or it is whole, and memory ran out
abbrev pub FaultSays : List ℕ → IpaFault → Type 0
FaultSays octets TooLong = IsBad octets
FaultSays octets Memory = (message : Message) × (rest : List ℕ) × Begins octets message rest

-- the message that is first is there whole, belongs to this stream and has this length
pub record IsFirst (octets : List ℕ) (stream count : ℕ) : Type 0 where
  pub within : 3 + count ≤ length octets
  pub begins : Begins octets (record { stream = stream; octets = take count (drop 3 octets) }) (drop (3 + count) octets)
