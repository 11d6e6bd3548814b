-- What holds of all logs, what the calls of a book keep, and what that says of each dialogue.
use Rattle.std.specs.Prelude.{◌≡◌, ℕ, ◌+◌, ◌-◌, ◌<◌, List, [], ◌∷◌, ◌++◌, length, filter, nat_lt, take, Bool, true, false, not, is_some, IsSome, unwrap_or, Option, None, Some, if◌then◌else◌}
use Rattle.std.specs.FinMap.{get}
use mathlib.Core.List.{IsPrefix}
use Rattle.fp_book.specs.Limits.{most_dialogues, most_lines}
use Rattle.fp_book.specs.declared.line.LoggedStep.{LoggedStep}
use Rattle.fp_book.specs.Log.{logged, lost_in}
use Rattle.fp_book.specs.declared.answers.Given.{Given}
use Rattle.fp_book.specs.declared.answers.Posted.{Posted}
use Rattle.fp_book.specs.declared.line.LoggedStep.TheVariants as line
use Rattle.fp_book.specs.declared.parcel.Content.{Content}
use Rattle.fp_book.specs.declared.parcel.Parcel.{Parcel}
use Rattle.fp_book.specs.declared.taken.Taken.{Taken}
use Rattle.fp_book.specs.Calls.{GivesDone, GoesDown, PicksParcel, Posts, PutsTurnBack, Sends, Takes, Ticks, Unsends}
use Rattle.fp_book.specs.Outbox.{unsent_frames}
use Rattle.fp_book.specs.Shelf.{AreBorn, Shelf, Sound, frame_out, frames_for}
use Rattle.fp_entry.specs.declared.entry.Entry.{Entry}
use Rattle.fp_entry.specs.declared.prepared.Prepared.{Prepared}
use Rattle.fp_row.specs.declared.done.Done.{Done}
use Rattle.fp_row.specs.declared.row.Row.{Row}
use Rattle.fp_row.specs.declared.turn.Turn.{Turn}
pub use Rattle.fp_row.specs.Turn.{frames_under}
use Rattle.fp_row.specs.Row.{is_closed, sent_of, served_of, start_of, turn_out, waiting_of, has_turn_out}
use Rattle.fp_service.specs.Dialogue.{is_over}
use Rattle.fp_service.specs.Fold.{core_after, cut, requests}
use Rattle.fp_tids.specs.Identifiers.{is_free, last_serial, serial_of}

-- how many steps a log accounts for: each that it has, and as many as its gaps count
abbrev pub accounted : List LoggedStep → ℕ
accounted [] = 0
accounted (step ∷ list) = unwrap_or (lost_in step) 1 + accounted list

-- a step, and no gap
abbrev pub is_told : LoggedStep → Bool
is_told step = not (is_some (lost_in step))

-- the steps that a log has
abbrev pub told : List LoggedStep → List LoggedStep
told list = filter is_told list

-- a log accounts for each step that it is given, as long as fewer than 2^64 - 1 are accounted for
abbrev pub EachStepIsAccountedFor : Type 0
EachStepIsAccountedFor =
    (list : List LoggedStep) (step : LoggedStep) → lost_in step ≡ None → accounted list < 18446744073709551615 → accounted (logged list step) ≡ accounted list + 1

-- the steps that a log has stay, in their order; a step comes after them while a place is left before the last one
abbrev pub ToldStepsStay : Type 0
ToldStepsStay =
    (list : List LoggedStep) (step : LoggedStep) → lost_in step ≡ None → told (logged list step) ≡ told list ++ (if nat_lt (length list) (most_lines - 1) then step ∷ [] else [])

-- to hand out a turn keeps what the type of a book keeps
abbrev pub TakingKeepsSound : Type 0
TakingKeepsSound = (old new : Shelf) (taken : Taken) → Sound old → Takes old taken new → Sound new

-- to take a turn back that was served does
abbrev pub GivingKeepsSound : Type 0
GivingKeepsSound = (old new : Shelf) (done : Done) (given : Given) → Sound old → GivesDone old done given new → Sound new

-- to take one back that wasn't served does
abbrev pub PuttingBackKeepsSound : Type 0
PuttingBackKeepsSound = (old new : Shelf) (turn : Turn) → Sound old → PutsTurnBack old turn new → Sound new

-- to hand out what is sent next does
abbrev pub PickingKeepsSound : Type 0
PickingKeepsSound = (old new : Shelf) (picked : Content) → Sound old → PicksParcel old picked new → Sound new

-- to take back what was sent does
abbrev pub SendingKeepsSound : Type 0
SendingKeepsSound = (old new : Shelf) (sent : Content) → Sound old → Sends old sent new → Sound new

-- to post a message does, whatever is done with it
abbrev pub PostingKeepsSound : Type 0
PostingKeepsSound = (old new : Shelf) (came : Prepared) (answer : Posted) → Sound old → Posts old came answer new → Sound new

-- to go down does: all dialogues are closed, and what waits is dropped
abbrev pub GoingDownKeepsSound : Type 0
GoingDownKeepsSound = (old new : Shelf) → Sound old → GoesDown old.outbox.out old line.Down new → Sound new

-- so does to take back what couldn't be sent
abbrev pub UnsendingKeepsSound : Type 0
UnsendingKeepsSound = (old new : Shelf) (parcel : Parcel) → Sound old → Unsends old parcel new → Sound new

-- so does to give a Clock to each dialogue that is due
abbrev pub TickingKeepsSound : Type 0
TickingKeepsSound = (old new : Shelf) (moment added wanting : ℕ) → Sound old → Ticks old moment added wanting new → Sound new

-- the entries of the turn that is out
abbrev pub turn_entries : Option Turn → List Entry
turn_entries None = []
turn_entries (Some turn) = turn.entries

-- What the type of a book keeps of the order of a dialogue that is held. The lengths of its lists are
-- in `KeepsOrder` of `fp_row`.
pub record IsKeptInOrder (s : Shelf) (local : ℕ) (row : Row) : Type 0 where
  -- it is under its own identifier
  pub local_is : row.local ≡ local
  -- the entries served are the first of those accepted, and none is after the one that ends the dialogue
  pub served : IsPrefix (served_of row) (cut (start_of row) row.accepted)
  -- its core is the one that results from them
  pub core : row.core ≡ core_after (start_of row) (served_of row)
  -- a turn that is out is of this dialogue, at the place after them, and holds that core
  pub turn : (turn : Turn) → turn_out row ≡ Some turn
      → turn ≡ record { local = local; peer = row.peer; position = length (served_of row); before = core_after (start_of row) (served_of row); entries = turn.entries }
  pub is_there : has_turn_out row ≡ true → IsSome (turn_out row)
  -- the entries served, those that are out and those that wait are those accepted, or the first of them where the
  -- dialogue was closed or its core is over
  pub entries : IsPrefix (served_of row ++ (turn_entries (turn_out row) ++ waiting_of row)) row.accepted
  pub all_entries : is_closed row.ended ≡ false → is_over row.core ≡ false → served_of row ++ (turn_entries (turn_out row) ++ waiting_of row) ≡ row.accepted
  -- the frames sent, the one that is being sent and those that wait are those that it requests on the entries served,
  -- under its identifiers, or the first of them where it was ended from outside
  pub frames : IsPrefix (sent_of row ++ (frame_out local s.outbox.out ++ frames_for local s.outbox.frames)) (frames_under local row.peer (requests (start_of row) (served_of row)))
  pub all_frames : row.ended ≡ None → sent_of row ++ (frame_out local s.outbox.out ++ frames_for local s.outbox.frames) ≡ frames_under local row.peer (requests (start_of row) (served_of row))
  -- each frame of it that is to be sent has its birth
  pub frames_born : AreBorn local row.birth (unsent_frames s.outbox)

abbrev pub DialoguesAreKeptInOrder : Type 0
DialoguesAreKeptInOrder = (s : Shelf) → Sound s → (local : ℕ) (row : Row) → get s.rows local ≡ Some row → IsKeptInOrder s local row

-- no two dialogues that are held have the same birth
abbrev pub BirthsAreDistinct : Type 0
BirthsAreDistinct =
    (s : Shelf) → Sound s → (local other : ℕ) (row held : Row)
    → get s.rows local ≡ Some row → get s.rows other ≡ Some held
    → row.birth ≡ held.birth → local ≡ other

-- while the link is up the serial of a dialogue that is held isn't among those that are given next once it comes back,
-- whatever comes back after it: as many as all serials but one for each dialogue that may be held, 126,976
abbrev pub SerialsOfDialoguesComeBackLate : Type 0
SerialsOfDialoguesComeBackLate =
    (s : Shelf) (local : ℕ) (row : Row) (more : List ℕ)
    → Sound s → s.is_down ≡ false → get s.rows local ≡ Some row
    → is_free (serial_of local) (take (last_serial - most_dialogues) (s.free ++ serial_of local ∷ more)) ≡ false
