-- How a book goes on as the plain list of dialogues does, while what came is served and sent.
use Rattle.std.specs.Prelude.{◌≡◌, ◌<◌, ◌≤◌, ◌+◌, ◌==◌, ℕ, Bool, false, not, List, [], ◌∷◌, ◌++◌, Option, Some, None, count_by, length, map, if◌then◌else◌, ◌⊎◌}
use Rattle.std.specs.List.{filter, flat_map}
use Rattle.std.specs.Option.{option_map_or}
use Rattle.std.specs.FinMap.{get}
use Rattle.fp_book.specs.Limits.{most_places}
use Rattle.fp_book.specs.declared.parcel.Waiting.{Waiting}
use Rattle.fp_book.specs.Outbox.{Outbox}
use Rattle.fp_book.specs.Shelf.{Shelf, Sound, base}
use Rattle.fp_entry.specs.declared.entry.Entry.{Entry}
use Rattle.fp_entry.specs.declared.entry.EntryKind.TheVariants.{Clock}
use Rattle.fp_entry.specs.Entries.{entry_at}
use Rattle.fp_reply.specs.ProviderAbort.{frame_octets}
use Rattle.fp_row.specs.declared.row.Row.{Row}
use Rattle.fp_row.specs.Row.{is_admitted, waiting_of}
use Rattle.fp_tids.specs.Identifiers.{serial_of}
use Rattle.fp_ask.specs.Solo.{Job, LinkState, Outcome, Dialogue, jobs_for, serve_all}
use Rattle.fp_ask.specs.Tied.{Matches, Rows, Same, is_out, live, times}

-- the entries that wait
abbrev pub waiting_at : Option Row → List Entry
waiting_at o = option_map_or waiting_of o []

abbrev pub jobs_in : List ℕ → Rows → List Job
jobs_in queue rows = flat_map (λ local. jobs_for local (waiting_at (get rows local))) queue

-- the entries that wait, in the order in which they will be served
abbrev pub jobs_of : Shelf → List Job
jobs_of s = jobs_in s.ready s.rows

-- the frames that wait, in the order in which they will be sent
abbrev pub frames_in : Outbox → List (List ℕ)
frames_in outbox = map frame_octets outbox.aborts ++ map (λ (w : Waiting). w.frame) outbox.frames

-- each of these has one entry
abbrev pub Singles : List ℕ → Rows → Type 0
Singles [] rows = Unit {0}
Singles (local ∷ queue) rows = (length (waiting_at (get rows local)) ≡ 1) × Singles queue rows

-- The link is up and nothing is out; one dialogue is ready, or each that is ready has one entry; and there is a place
-- for each frame that may be requested.
pub record Fit (s : Shelf) : Type 0 where
  pub sound : Sound s
  pub link : s.link ≡ 0
  pub up : s.is_down ≡ false
  pub idle : (local : ℕ) → is_out (get s.rows local) ≡ false
  pub none_out : s.outbox.out ≡ None
  pub orderly : (length s.ready ≤ 1) ⊎ Singles s.ready s.rows
  pub room : length s.outbox.frames + length (jobs_of s) < most_places

-- nothing waits to be served
pub record IsServed (s : Shelf) : Type 0 where
  pub fit : Fit s
  pub ready : s.ready ≡ []

-- THE SERIALS OF DIALOGUES THAT LEFT THE LIST

-- how often a number is among these
abbrev pub count : ℕ → List ℕ → ℕ
count local locals = count_by (λ (other : ℕ). other == local) locals

-- a dialogue is held that isn't in the list: something of it is left
abbrev pub is_leaving : Option Row → Bool
is_leaving o = option_map_or (λ row. not (is_admitted row)) o false

-- whom it concerns that a message or a moment came: one dialogue alone, or those that were due
pub data Concerned : Type 0 where
  one : ℕ → Concerned
  due : Concerned

-- the dialogues whose frames wait, by frame
abbrev pub senders : Outbox → List ℕ
senders outbox = map (λ (w : Waiting). w.local) outbox.frames

-- those that left the list and are held, in the order in which their serials come back: if several do, then as their
-- frames are sent
abbrev pub leaving : Concerned → Shelf → List ℕ
leaving (one local) s = if is_leaving (get s.rows local) then local ∷ [] else []
leaving due s = filter (λ local. is_leaving (get s.rows local)) (senders s.outbox)

-- the serials that will have come back once nothing of those is left
abbrev pub all_free : Concerned → Shelf → List ℕ
all_free who s = s.free ++ map serial_of (leaving who s)

-- one Clock waits of a dialogue that is in the list
abbrev pub HasClock : Option Row → Type 0
HasClock o = (is_leaving o ≡ false) × ((moment : ℕ) × (waiting_at o ≡ entry_at moment Clock ∷ []))

-- what holds while what came is served and sent
abbrev pub Concerns : Concerned → Shelf → Type 0
-- of a message: no dialogue but this one is ready, or has left the list
Concerns (one local) s =
    (other : ℕ) → (other == local) ≡ false
    → (count other s.ready ≡ 0) × (is_leaving (get s.rows other) ≡ false)
-- of a moment: each dialogue that is ready has one Clock, and none has two frames, or one while it is ready
Concerns due s =
    ((local : ℕ) → 0 < count local s.ready → HasClock (get s.rows local))
    × ((local : ℕ) → count local (senders s.outbox) + count local s.ready ≤ 1)

-- to serve what waits ends with this list, after these frames, and these serials may be given once nothing is left of
-- those that left the list
pub record Midway (s : Shelf) (p : Outcome) : Type 0 where
  pub dialogues : List Dialogue
  pub same : Same dialogues s.rows
  pub dialogues_end : (serve_all (jobs_of s) dialogues).dialogues ≡ p.link.dialogues
  pub frames_end : frames_in s.outbox ++ (serve_all (jobs_of s) dialogues).frames ≡ p.frames
  pub who : Concerned
  pub concerns : Concerns who s
  pub free_end : all_free who s ++ (serve_all (jobs_of s) dialogues).returned ≡ p.link.free

-- a message or a moment came to a book: once what waits is served and sent, the plain list is this one, after these
-- frames
pub record Came (p : Outcome) (new : Shelf) : Type 0 where
  pub midway : Midway new p
  pub bases : p.link.base ≡ base new
  pub births : p.link.births ≡ new.births
  pub entries : p.link.entries ≡ new.entries
  pub once : (local : ℕ) → times local p.link.dialogues ≤ 1

-- what serials are added to and what was counted are unchanged
pub record SameCounts (old new : Shelf) : Type 0 where
  pub bases : base new ≡ base old
  pub births : new.births ≡ old.births
  pub entries : new.entries ≡ old.entries

-- whatever the end was, it still is
abbrev pub KeepsEnd : Shelf → Shelf → Type 0
KeepsEnd old new = (p : Outcome) → Midway old p → Midway new p

-- the serials that will have come back are the same
abbrev pub KeepsFree : Shelf → Shelf → Type 0
KeepsFree old new =
    (who : Concerned) → Concerns who old → Concerns who new × (all_free who new ≡ all_free who old)

-- the dialogues are unchanged, except for what was sent, and so are the serials that will have come back
pub record KeepsDialogues (old new : Shelf) : Type 0 where
  pub lives : (local : ℕ) → live (get new.rows local) ≡ live (get old.rows local)
  pub counts : SameCounts old new
  pub free : KeepsFree old new

-- A LINK, UNTIL MEMORY RUNS OUT

-- the plain list describes this book, if there is one
abbrev pub Tells : LinkState → Option Shelf → Type 0
Tells w None = ⊥
Tells w (Some s) = Matches w s

-- a link went on as the plain list does, and these frames were sent, whatever list describes it before
pub record LinkGoesOn (p : Outcome) (new : Option Shelf) (frames : List (List ℕ)) : Type 0 where
  pub tells : Tells p.link new
  pub frames_are : frames ≡ p.frames

abbrev pub LinkFollows : (LinkState → Outcome) → Option Shelf → Option Shelf → List (List ℕ) → Type 0
LinkFollows play old new frames = (w : LinkState) → Tells w old → LinkGoesOn (play w) new frames
