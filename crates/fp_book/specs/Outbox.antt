-- What waits to be sent on a link, and what is being sent.
use Rattle.std.specs.Prelude.{◌≡◌, ℕ, ◌+◌, ◌≤◌, List, [], ◌∷◌, ◌++◌, length, filter, map, nat_lt, Bool, if◌then◌else◌, Option, Some, None, IsSome}
use Rattle.fp_book.specs.Limits.{most_aborts_waiting, most_places}
use Rattle.fp_reply.specs.ProviderAbort.{AbortFrame}
use Rattle.fp_book.specs.declared.parcel.Content.{Content}
use Rattle.fp_book.specs.declared.parcel.Content.TheVariants as contents
use Rattle.fp_book.specs.declared.parcel.Picked.{Picked}
use Rattle.fp_book.specs.declared.parcel.Picked.TheVariants as answers
use Rattle.fp_book.specs.declared.parcel.Waiting.{Waiting}
use Rattle.fp_book.specs.ReadyQueue.{is_other}

-- what waits, the oldest first, and what is being sent
pub record Outbox : Type 0 where
  -- Aborts of the provider
  pub aborts : List AbortFrame
  -- frames of dialogues
  pub frames : List Waiting
  -- what the parcel holds that is out
  pub out : Option Content

-- nothing waits, and nothing is being sent
abbrev pub nothing : Outbox
nothing = record { aborts = []; frames = []; out = None }

-- what each outbox keeps: at most `most_aborts_waiting` Aborts and `most_places` frames, and memory for as many
pub record IsKept (aborts : List AbortFrame) (abort_room : ℕ) (frames : List Waiting) (frame_room : ℕ) : Type 0 where
  pub most_aborts : length aborts ≤ most_aborts_waiting
  pub most_frames : length frames ≤ most_places
  pub abort_places : most_aborts_waiting ≤ abort_room
  pub frame_places : most_places ≤ frame_room

-- the places that what is being sent holds: one for a frame of a dialogue
abbrev pub places_out : Option Content → ℕ
places_out None = 0
places_out (Some (contents.Abort frame)) = 0
places_out (Some (contents.Frame waiting)) = 1

-- the places for frames that are held: by those that wait, and by one that is being sent
abbrev pub frames_held : Outbox → ℕ
frames_held outbox = length outbox.frames + places_out outbox.out

-- one more Abort waits, after the others
abbrev pub with_abort : Outbox → AbortFrame → Outbox
with_abort outbox frame = record { aborts = outbox.aborts ++ frame ∷ []; frames = outbox.frames; out = outbox.out }

-- so it does while fewer wait than may; else nothing changes
abbrev pub abort_added : Outbox → AbortFrame → Outbox
abort_added outbox frame = if nat_lt (length outbox.aborts) most_aborts_waiting then with_abort outbox frame else outbox

-- frames of a dialogue, as they wait
abbrev pub waiting_frames : ℕ → ℕ → List (List ℕ) → List Waiting
waiting_frames local birth frames =
    map (λ frame. record { local = local; birth = birth; frame = frame }) frames

-- the frame of a dialogue that is being sent
abbrev pub being_sent : Option Content → List Waiting
being_sent None = []
being_sent (Some (contents.Abort frame)) = []
being_sent (Some (contents.Frame waiting)) = waiting ∷ []

-- the frames of dialogues that are to be sent, the one that is being sent first
abbrev pub unsent_frames : Outbox → List Waiting
unsent_frames outbox = being_sent outbox.out ++ outbox.frames

-- more frames wait, after the others
abbrev pub with_frames : Outbox → List Waiting → Outbox
with_frames outbox more = record { aborts = outbox.aborts; frames = outbox.frames ++ more; out = outbox.out }

-- the frame of another dialogue than this one
abbrev pub is_of_other : ℕ → Waiting → Bool
is_of_other local waiting = is_other local waiting.local

-- the waiting frames of a dialogue are dropped
abbrev pub without_frames_of : ℕ → Outbox → Outbox
without_frames_of local outbox = record {
  aborts = outbox.aborts;
  frames = filter (is_of_other local) outbox.frames;
  out = outbox.out;
}

-- all that waits is dropped
abbrev pub without_waiting : Outbox → Outbox
without_waiting outbox = record { aborts = []; frames = []; out = outbox.out }

-- nothing is being sent any longer
abbrev pub with_nothing_out : Outbox → Outbox
with_nothing_out outbox = record { aborts = outbox.aborts; frames = outbox.frames; out = None }

-- the content is the oldest Abort, or, where no Abort waits, the oldest frame; it waits no longer, and all else does
abbrev pub IsNext : Outbox → Content → Outbox → Type 0
IsNext old (contents.Abort frame) new = (old.aborts ≡ frame ∷ new.aborts) × (new.frames ≡ old.frames)
IsNext old (contents.Frame waiting) new = (old.aborts ≡ []) × (new.aborts ≡ []) × (old.frames ≡ waiting ∷ new.frames)

-- what is sent next waits no longer; none, where nothing waits
abbrev pub TakesNext : Outbox → Option Content → Outbox → Type 0
TakesNext old None new = (old.aborts ≡ []) × (old.frames ≡ []) × (new ≡ old)
TakesNext old (Some content) new = IsNext old content new × (new.out ≡ old.out)

-- what is handed out on a link
abbrev pub Picks : ℕ → Outbox → Picked → Outbox → Type 0
-- a parcel of the link: none was out; it holds what is sent next, and is out now
Picks link old (answers.Parcel parcel) new =
    (old.out ≡ None) × IsNext old parcel.content new × (new.out ≡ Some parcel.content) × (parcel.link ≡ link)
-- a parcel is out already, and nothing changes
Picks link old answers.Busy new = IsSome old.out × (new ≡ old)
-- nothing waits, and nothing changes
Picks link old answers.Nothing new = (old ≡ nothing) × (new ≡ old)
