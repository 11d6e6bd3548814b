-- The frames of a link on their way to its book. A frame is the list of its message's octets.
use Rattle.std.specs.Prelude.{◌≡◌, ℕ, ◌*◌, Bool, true, false, if◌then◌else◌, None, Some, List, [], ◌∷◌, ◌++◌, All, map, min}
use Rattle.std.specs.declared.option.Option.{Option}
use Rattle.fp_records.specs.Table.{Contents}
use Rattle.fp_entry.specs.declared.prepared.Prepared.{Prepared}
use Rattle.fp_linkstate.specs.declared.arrivals.Reading.{Reading}
use Rattle.fp_entry.specs.Prepared.{IsLost, IsPrepared, arrival_of}

-- the frames that came and aren't prepared; how many are prepared for one post; and whether those that come are dropped
pub record Arrivals : Type 0 where
  pub frames : List (List ℕ)
  pub portion : ℕ
  pub is_over : Bool

-- none came yet
abbrev pub no_arrivals : Arrivals
no_arrivals = record { frames = []; portion = 64; is_over = false }

-- one more came
abbrev pub with_frame : Arrivals → List ℕ → Arrivals
with_frame q frame = record q { frames = (if q.is_over then q.frames else q.frames ++ frame ∷ []) }

-- those that wait are dropped, and so is each that comes
abbrev pub quit : Arrivals → Arrivals
quit q = record q { frames = []; is_over = true }

-- the portion after these messages weren't posted: one if there are some, since the first was held back
abbrev pub portion_after : List Prepared → ℕ → ℕ
portion_after [] portion = min (portion * 2) 64
portion_after (message ∷ messages) portion = 1

-- the frames of messages
abbrev pub frames_of : List Prepared → List (List ℕ)
frames_of messages = map (λ message. (arrival_of message).frame) messages

-- those that are prepared come back to the front
abbrev pub with_frames_back : List Prepared → Arrivals → Arrivals
with_frames_back messages q =
    record q { frames = frames_of messages ++ q.frames; portion = portion_after messages q.portion }

-- a frame is read by this table, these names and at this moment; without a table it is lost
abbrev pub IsRead : Option Contents → List (List ℕ) → ℕ → List ℕ → Prepared → Type 0
IsRead (Some contents) contexts moment frame message = IsPrepared contents contexts frame moment message
IsRead None contexts moment frame message = IsLost frame moment message

-- the frame of this message is read in this way
abbrev pub IsReadBy : Reading → Prepared → Type 0
IsReadBy reading message =
    IsRead reading.lookup reading.contexts.now reading.moment (arrival_of message).frame message

-- messages come after these, and each of them is such
pub record Adds (Is : Prepared → Type 0) (old new : List Prepared) : Type 0 where
  pub added : List Prepared
  pub after_old : new ≡ old ++ added
  pub each : All Is added

-- The frames that were fed are those that were posted, those of the messages that are prepared, those that wait, and
-- those that were dropped, in this order. None is dropped before all that come are.
pub record Arrived (fed posted : List (List ℕ)) (messages : List Prepared) (q : Arrivals) : Type 0 where
  pub dropped : List (List ℕ)
  pub in_order : fed ≡ posted ++ (frames_of messages ++ (q.frames ++ dropped))
  pub none : q.is_over ≡ false → dropped ≡ []

-- so it stays
pub record KeepsOrder : Type 0 where
  -- before any frame came
  pub begins : Arrived [] [] [] no_arrivals
  -- after a frame is fed
  pub feeds : (fed posted : List (List ℕ)) (messages : List Prepared) (q : Arrivals) (frame : List ℕ)
      → Arrived fed posted messages q → Arrived (fed ++ frame ∷ []) posted messages (with_frame q frame)
  -- after one is dropped since an allocation failed
  pub fails : (fed posted : List (List ℕ)) (messages : List Prepared) (q : Arrivals) (frame : List ℕ)
      → Arrived fed posted messages q → Arrived (fed ++ frame ∷ []) posted messages (record q { is_over = true })
  -- after all that wait are dropped
  pub quits : (fed posted : List (List ℕ)) (messages : List Prepared) (q : Arrivals)
      → Arrived fed posted messages q → Arrived fed posted messages (quit q)
  -- after frames are prepared or come back
  pub moves : (fed posted : List (List ℕ)) (before after : List Prepared) (old new : Arrivals)
      → frames_of after ++ new.frames ≡ frames_of before ++ old.frames → new.is_over ≡ old.is_over
      → Arrived fed posted before old → Arrived fed posted after new
  -- after messages at the front of the prepared ones are posted
  pub posts : (fed posted : List (List ℕ)) (front left : List Prepared) (q : Arrivals)
      → Arrived fed posted (front ++ left) q → Arrived fed (posted ++ frames_of front) left q
