-- What holds of all frames.
use Rattle.std.specs.Prelude.{◌≡◌, ℕ, ◌+◌, List, ◌++◌, length, drop}
use Rattle.fp_frames.specs.Frame.{framed}
use Rattle.fp_frames.specs.Stream.{Begins, Frames, IsBad, IsIncomplete, IsStream}

-- behind the four octets of the head stands the message
abbrev pub StandsBehindItsHead : Type 0
StandsBehindItsHead = (message : List ℕ) → drop 4 (framed message) ≡ message

-- with its head a message is four octets longer
abbrev pub IsFourOctetsLonger : Type 0
IsFourOctetsLonger = (message : List ℕ) → length (framed message) ≡ 4 + length message

-- octets are the frames of at most one list of messages, and have at most one rest
abbrev pub StreamsAreOne : Type 0
StreamsAreOne =
    (octets : List ℕ) (ones others : List (List ℕ)) (one other : List ℕ)
    → IsStream octets ones one → IsStream octets others other → (ones ≡ others) × (one ≡ other)

-- where a stream goes on, its frames go on with those of its rest and what comes
abbrev pub FramesGoOn : Type 0
FramesGoOn =
    (octets more rest behind : List ℕ) (first later : List (List ℕ))
    → Frames octets first rest → Frames (rest ++ more) later behind → Frames (octets ++ more) (first ++ later) behind

-- whatever comes behind a head that is no frame's, it stays so
abbrev pub BadStaysBad : Type 0
BadStaysBad = (octets more : List ℕ) → IsBad octets → IsBad (octets ++ more)

-- where a head stands that is no frame's, no frame stands, whole or not
abbrev pub BadIsNoFrame : Type 0
BadIsNoFrame = (octets message rest : List ℕ) → IsBad octets → ¬ IsIncomplete octets × ¬ Begins octets message rest
