-- The frames of a stream of octets (own, in the place of SCCP), in whatever pieces it comes: messages behind their
-- heads, one after another, and then octets that begin with no whole frame.
use Rattle.std.specs.Prelude.{◌≡◌, ℕ, ◌+◌, ◌<◌, ◌≤◌, ◌⊎◌, List, ◌++◌, Option, Some, None, drop, length, take}
use Rattle.std.specs.Int.{w32, from_be_bytes}
use Rattle.std.specs.List.{All, flat_map}
use Rattle.fp_frames.specs.declared.fault.FrameFault.{FrameFault}
use Rattle.fp_frames.specs.declared.fault.FrameFault.TheVariants.{BadFrameLength, Memory}
use Rattle.fp_frames.specs.Frame.{IsMessageLength, framed, most_octets}

-- the length that the first four octets tell
abbrev pub length_told : List ℕ → ℕ
length_told octets = from_be_bytes w32 (take 4 octets)

-- a head stands first that is no frame's: the length that it tells is 0 or above 4,096
abbrev pub IsBad : List ℕ → Type 0
IsBad octets = (4 ≤ length octets) × ((length_told octets ≡ 0) ⊎ (most_octets < length_told octets))

-- no whole head stands here; or that of a frame, and not its whole message behind it
abbrev pub IsIncomplete : List ℕ → Type 0
IsIncomplete octets = (length octets < 4) ⊎ (IsMessageLength (length_told octets) × (length octets < 4 + length_told octets))

-- the frame of this message stands first, and the rest behind it
pub record Begins (octets message rest : List ℕ) : Type 0 where
  pub size : IsMessageLength (length message)
  pub whole : octets ≡ framed message ++ rest

-- these octets are the frames of these messages, one after another, and the rest behind them
pub record Frames (octets : List ℕ) (messages : List (List ℕ)) (rest : List ℕ) : Type 0 where
  pub sizes : All (λ (message : List ℕ). IsMessageLength (length message)) messages
  pub whole : octets ≡ flat_map framed messages ++ rest

-- and no whole frame stands first in the rest
pub record IsStream (octets : List ℕ) (messages : List (List ℕ)) (rest : List ℕ) : Type 0 where
  pub frames : Frames octets messages rest
  pub end : IsIncomplete rest ⊎ IsBad rest

-- what comes of asking for the next frame: the one that stands first; or none, and nothing changes
abbrev pub HandsOut : List ℕ → List ℕ → Option (List ℕ) → Type 0
HandsOut old new (Some message) = Begins old message new
HandsOut old new None = IsIncomplete old × (new ≡ old)

-- why none is: a head stands first that is no frame's; or a whole frame does, for which memory was wanting
abbrev pub FrameFaultSays : List ℕ → FrameFault → Type 0
FrameFaultSays octets BadFrameLength = IsBad octets
FrameFaultSays octets Memory = (message : List ℕ) × (rest : List ℕ) × Begins octets message rest

-- so many octets behind the head are the message of the frame that stands first
pub record IsFirstLength (octets : List ℕ) (count : ℕ) : Type 0 where
  pub within : 4 + count ≤ length octets
  pub begins : Begins octets (take count (drop 4 octets)) (drop (4 + count) octets)

-- what the length of the first message is, where its frame stands there whole
abbrev pub FirstLengthSays : List ℕ → Option ℕ → Type 0
FirstLengthSays octets (Some count) = IsFirstLength octets count
FirstLengthSays octets None = IsIncomplete octets
