-- What the loop that reads a link makes of what it reads, and why it went no further.
use Rattle.std.specs.Prelude.{◌≡◌, ◌≢◌, ℕ, ◌<◌, ◌≤◌, ◌⊎◌, List, [], ◌++◌, Option, Result, Ok, Err, length}
use Rattle.std.specs.List.{All}
use Rattle.std.specs.Io.KnownBytes.{Consumes}
use Rattle.fp_frames.specs.declared.fault.FrameFault.{FrameFault}
use Rattle.fp_frames.specs.declared.fault.FrameFault.TheVariants as faults
use Rattle.fp_frames.specs.Stream.{Frames, IsBad, IsIncomplete}
use Rattle.fp_streams.specs.Grows.{Grows}
use Rattle.fp_streams.specs.Reads.{IsEnd, IsPiece, joined}
use Rattle.fp_linkio.specs.declared.ended.Ended.{Ended}
use Rattle.fp_linkio.specs.declared.ended.Ended.TheVariants.{EndOfInput, BadFrame, ReadFault, WriteFault, TurnLimit, Memory}

-- why it went no further: after this number of reads of which each gave octets, the last one too, and with this rest
-- after the frames that were handed on
abbrev pub ReceiveEnds : Ended → ℕ → ℕ → Option (List ℕ) → List (List ℕ) → List ℕ → Type 0
-- the input is at its end, and nothing is left of it
ReceiveEnds EndOfInput turns count left last rest = IsEnd turns count left last × (rest ≡ [])
-- a length comes next that no frame has; or the input is at its end, inside a frame
ReceiveEnds BadFrame turns count left last rest =
    (IsBad rest × (last ≡ []) × (count ≤ turns)) ⊎ (IsEnd turns count left last × IsIncomplete rest × (0 < length rest))
-- no whole frame is left, and one more read was made, which failed
ReceiveEnds ReadFault turns count left last rest = IsIncomplete rest × (last ≡ []) × (count < turns)
ReceiveEnds WriteFault turns count left last rest = ⊥
-- no whole frame is left, and all reads were made
ReceiveEnds TurnLimit turns count left last rest = IsIncomplete rest × (last ≡ []) × (count ≡ turns)
-- whole frames may be left
ReceiveEnds Memory turns count left last rest = (last ≡ []) × (count ≤ turns)

-- how many octets one read of a link gives at most
abbrev pub most_read : ℕ
most_read = 65536

-- Pieces were read, and perhaps the end of the input. The messages that were handed on are those of the frames at the
-- front of what was read, in their order.
pub record Receives (turns : ℕ) (had left : Option (List ℕ)) (before after old new : Option (List (List ℕ))) (ended : Ended) : Type 0 where
  pub pieces : List (List ℕ)
  pub sizes : All (IsPiece most_read) pieces
  pub last : List (List ℕ)
  pub read : Grows before after (pieces ++ last)
  pub consumed : Consumes had left (joined pieces)
  pub messages : List (List ℕ)
  pub handed_on : Grows old new messages
  pub rest : List ℕ
  pub frames : Frames (joined pieces) messages rest
  pub end : ReceiveEnds ended turns (length pieces) left last rest

-- the failures of the reader: it failed if that is reported, and not otherwise
abbrev pub ReaderFailed : Ended → ℕ → ℕ → Type 0
ReaderFailed EndOfInput old new = new ≡ old
ReaderFailed BadFrame old new = new ≡ old
ReaderFailed ReadFault old new = new ≢ old
ReaderFailed WriteFault old new = ⊥
ReaderFailed TurnLimit old new = new ≡ old
ReaderFailed Memory old new = new ≡ old

-- why no more frames were handed on: none is whole; or a length comes next that no frame has; or memory ran out
abbrev pub HandingEnds : {A : Type 0} → Result A FrameFault → List ℕ → Type 0
HandingEnds (Ok done) rest = IsIncomplete rest
HandingEnds (Err faults.BadFrameLength) rest = IsBad rest
HandingEnds (Err faults.Memory) rest = Unit {0}

-- the frames at the front of these octets were handed on, in their order, and the rest is left
pub record HandsOn {A : Type 0} (old new : Option (List (List ℕ))) (octets rest : List ℕ) (result : Result A FrameFault) : Type 0 where
  pub messages : List (List ℕ)
  pub handed_on : Grows old new messages
  pub frames : Frames octets messages rest
  pub end : HandingEnds result rest
