-- How a book stands to the history of its run.
use Rattle.std.specs.Prelude.{◌≡◌, ℕ, ◌<◌, ◌≤◌, ◌==◌, ◌&&◌, Bool, false, not, List, [], ◌++◌, Option, Some, None, map, is_some, length, nat_le, nat_lt, option_map, if◌then◌else◌}
use Rattle.std.specs.Option.{option_map_or}
use Rattle.std.specs.FinMap.{get}
use mathlib.Core.List.{IsPrefix}
use Rattle.fp_book.specs.declared.parcel.Content.{Content}
use Rattle.fp_book.specs.Parcel.{local_of as parcel_local, octets_of}
use Rattle.fp_book.specs.Shelf.{Shelf}
use Rattle.fp_entry.specs.declared.entry.Entry.{Entry}
use Rattle.fp_q773.specs.Tid.{octets_of as octets_of_tid}
use Rattle.fp_reply.specs.ProviderAbort.{frame_octets}
use Rattle.fp_row.specs.declared.ending.Ending.{Ending}
use Rattle.fp_row.specs.declared.row.Row.{Row}
use Rattle.fp_row.specs.Row.{is_closed, queued_of, sent_of}
use Rattle.fp_service.specs.declared.dialogue.Core.{Core}
use Rattle.fp_service.specs.Dialogue.{fresh, is_over}
use Rattle.fp_service.specs.Fold.{core_after, cut, requests}
use Rattle.fp_steps.specs.Accepted.{accepted, ending, entry_count, in_places, numbers_from, positions}
use Rattle.fp_steps.specs.Births.{Beginning, beginning, births, local_of, named}
use Rattle.fp_steps.specs.History.{Event}
use Rattle.fp_steps.specs.Sending.{Handed, abort_out, aborts, aborts_sent, frame_from, out, queued, sent}
use Rattle.fp_steps.specs.Turns.{count_out}

-- all that a history tells of a dialogue
pub record Story : Type 0 where
  pub began : Option Beginning
  pub accepts : List Entry
  pub places : List ℕ
  pub queues : List (List ℕ)
  pub sends : List (List ℕ)
  pub ended : Option Ending
  pub out : ℕ

abbrev pub story : List Event → ℕ → Story
story h d = record {
  began = beginning h d;
  accepts = accepted h d;
  places = positions h d;
  queues = queued h d;
  sends = sent h d;
  ended = ending h d;
  out = count_out h d;
}

-- the core with which it begins, what was served, the core then, and the frames that were requested
abbrev pub start_in : ℕ → Story → Core
start_in d t = fresh d (option_map_or (λ (b : Beginning). b.moment) t.began 0)

abbrev pub served_in : Story → List Entry
served_in t = in_places t.accepts t.places

abbrev pub core_in : ℕ → Story → Core
core_in d t = core_after (start_in d t) (served_in t)

abbrev pub asked_in : ℕ → Story → List (List ℕ)
asked_in d t = map (frame_from t.began) (requests (start_in d t) (served_in t))

-- what holds of it
pub record IsStraight (d : ℕ) (t : Story) : Type 0 where
  pub served_first : IsPrefix (served_in t) (cut (start_in d t) t.accepts)
  pub sent_first : IsPrefix t.sends (asked_in d t)
  pub each_once : t.places ≡ numbers_from 0 (length t.places)
  pub each_there : length (served_in t) ≡ length t.places
  pub sent_queued : IsPrefix t.sends t.queues
  pub queued_first : IsPrefix t.queues (asked_in d t)

-- whether it takes messages
abbrev pub admits_in : ℕ → ℕ → Story → Bool
admits_in births d t = (nat_lt 0 d && nat_le d births) && (not (is_some t.ended) && not (is_over (core_in d t)))

-- whether an entry of it is still to be served
abbrev pub waits_in : ℕ → Story → Bool
waits_in d t = not (is_closed t.ended) && (not (is_over (core_in d t)) && nat_lt (length t.places) (length t.accepts))

-- how it began
abbrev pub beginning_of : Row → Beginning
beginning_of row = record { local = row.local; peer = octets_of_tid row.peer; moment = row.opened }

-- the dialogue is this one
pub record IsTied (d : ℕ) (t : Story) (row : Row) : Type 0 where
  pub birth : row.birth ≡ d
  pub begins : t.began ≡ Some (beginning_of row)
  pub accepts : t.accepts ≡ row.accepted
  pub serves : t.places ≡ numbers_from 0 row.served
  pub queues : t.queues ≡ queued_of row
  pub sends : t.sends ≡ sent_of row
  pub ends : t.ended ≡ row.ended
  pub outs : t.out ≡ row.out

-- nothing is left of it, or it isn't opened yet
pub record IsGone (births : ℕ) (d : ℕ) (t : Story) : Type 0 where
  pub straight : IsStraight d t
  pub admitted : admits_in births d t ≡ false
  pub waits : waits_in d t ≡ false
  pub outs : t.out ≡ 0
  -- all that it requested was sent, where nothing ended it from outside
  pub all_sent : t.ended ≡ None → t.sends ≡ asked_in d t

abbrev pub TiedAt : ℕ → ℕ → Story → Option Row → Type 0
TiedAt births d t None = IsGone births d t
TiedAt births d t (Some row) = IsTied d t row

-- a dialogue that isn't opened yet
abbrev pub untold : Story
untold = record { began = None; accepts = []; places = []; queues = []; sends = []; ended = None; out = 0 }

-- the local transaction identifier with which a dialogue was opened, and 0 for one that wasn't
abbrev pub began_with : Option Beginning → ℕ
began_with began = option_map_or (λ (b : Beginning). b.local) began 0

-- The dialogues with the births 1 to n were opened. An identifier names none but one that was opened with it.
pub record OpenedTo (n : ℕ) (naming : ℕ → Option ℕ) (began : ℕ → Option Beginning) : Type 0 where
  pub begins : (d : ℕ) (b : Beginning) → began d ≡ Some b → (0 < d) × (d ≤ n)
  -- none has the identifier of an Abort of the provider
  pub not_zero : (d : ℕ) → 0 < d → d ≤ n → 0 < began_with (began d)
  pub names : (local d : ℕ) → naming local ≡ Some d → (local ≡ began_with (began d)) × (0 < d) × (d ≤ n)

abbrev pub Opened : List Event → Type 0
Opened h = OpenedTo (births h) (named h) (beginning h)

-- what is out to be sent
abbrev pub handed : List Event → Content → Handed
handed h content = record { local = parcel_local content; dialogue = named h (parcel_local content); octets = octets_of content }

-- the Aborts of the provider that were answered: those that were sent, that which is out, and then those that wait
pub record AbortsTied (h : List Event) (s : Shelf) : Type 0 where
  pub rest : List (List ℕ)
  pub all : aborts_sent h ++ (abort_out (out h) ++ rest) ≡ aborts h
  pub waiting : s.is_down ≡ false → rest ≡ map frame_octets s.outbox.aborts

-- a row, if it is that of the dialogue with this birth
abbrev pub row_of : ℕ → Option Row → Option Row
row_of d None = None
row_of d (Some row) = if row.birth == d then Some row else None

-- the row of a dialogue: the one under its identifier, if it has its birth, too
abbrev pub row_at : List Event → Shelf → ℕ → Option Row
row_at h s d = row_of d (get s.rows (local_of h d))

pub record Tied (h : List Event) (s : Shelf) : Type 0 where
  pub births_are : births h ≡ s.births
  pub entries_are : entry_count h ≡ s.entries
  pub opened : Opened h
  -- each dialogue that the book holds is the one that its identifier names
  pub names : (local : ℕ) (row : Row) → get s.rows local ≡ Some row → named h local ≡ Some row.birth
  -- each dialogue is the one that the book holds under its identifier and with its birth, if it holds one
  pub rows : (d : ℕ) → TiedAt (births h) d (story h d) (row_at h s d)
  pub later : (d : ℕ) → births h < d → story h d ≡ untold
  pub is_out : out h ≡ option_map (handed h) s.outbox.out
  pub aborts_are : AbortsTied h s
