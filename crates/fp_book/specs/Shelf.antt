-- A book: the dialogues of a link, the order in which they are served, what waits to be sent, and the log.
use Rattle.std.specs.Prelude.{◌≡◌, ◌<◌, ◌≤◌, ◌+◌, ◌==◌, ℕ, Bool, true, false, List, [], ◌∷◌, ◌++◌, Option, Some, None, length, count_by, is_some, if◌then◌else◌, ◌*◌}
use Rattle.std.specs.List.{AllByRecursion, flat_map}
use Rattle.std.specs.Ordering.{nat_cmp}
use Rattle.std.specs.FinMap.{FinMap, empty, get, insert, remove, len}
use Rattle.fp_book.specs.Limits.{all_entries, most_aborts_waiting, most_dialogues, most_places}
use Rattle.fp_book.specs.declared.line.LoggedStep.{LoggedStep}
use Rattle.fp_book.specs.declared.parcel.Content.{Content}
use Rattle.fp_book.specs.declared.parcel.Content.TheVariants as content
use Rattle.fp_book.specs.declared.parcel.Waiting.{Waiting}
use Rattle.fp_book.specs.declared.totals.Totals.{Totals}
use Rattle.fp_book.specs.Outbox.{Outbox, frames_held, nothing, unsent_frames}
use Rattle.fp_book.specs.Totals.{accepted_by, sent_by, served_by, sum_of, with_row}
use Rattle.fp_row.specs.declared.ending.Ending.TheVariants.{Closed}
use Rattle.fp_row.specs.declared.row.Row.{Row}
use Rattle.fp_row.specs.Row.{is_admitted, is_held, is_ready, kept_of, sent_of}
use Rattle.fp_tids.specs.Identifiers.{AreSerials, all_serials, base_of, identifier, is_free, last_serial, last_tag, serial_of}

-- what contracts see of a book
pub record Shelf : Type 0 where
  -- the link, 0 to 7, and the tag of its run, 0 to 4,094
  pub link : ℕ
  pub tag : ℕ
  -- the serials that may be given to dialogues, the next one first
  pub free : List ℕ
  -- how many Begins were accepted
  pub births : ℕ
  -- how many entries were ever accepted
  pub entries : ℕ
  -- the dialogues that are held, by local identifier
  pub rows : FinMap nat_cmp Row
  -- those that are ready, the one that has been so longest first
  pub ready : List ℕ
  -- what waits to be sent, and what is being sent
  pub outbox : Outbox
  -- what was counted
  pub totals : Totals
  -- what of that is of dialogues that are no longer held
  pub gone : Totals
  -- the log, as far as it wasn't drained
  pub log : List LoggedStep
  -- whether the link is down
  pub is_down : Bool

-- nothing was counted
abbrev pub no_totals : Totals
no_totals = record { accepted = 0; served = 0; sent = 0 }

-- a link that is up, on which nothing came yet
abbrev pub empty_shelf : ℕ → ℕ → Shelf
empty_shelf link tag = record {
  link = link;
  tag = tag;
  free = all_serials;
  births = 0;
  entries = 0;
  rows = empty;
  ready = [];
  outbox = nothing;
  totals = no_totals;
  gone = no_totals;
  log = [];
  is_down = false;
}

-- what the serials of the link are added to
abbrev pub base : Shelf → ℕ
base s = base_of s.link s.tag

-- the frames of one dialogue among those that wait
abbrev pub frames_for : ℕ → List Waiting → List (List ℕ)
frames_for local frames = flat_map (λ (w : Waiting). if w.local == local then w.frame ∷ [] else []) frames

-- the frame of one dialogue that is being sent
abbrev pub frame_out : ℕ → Option Content → List (List ℕ)
frame_out local None = []
frame_out local (Some (content.Abort frame)) = []
frame_out local (Some (content.Frame w)) = frames_for local (w ∷ [])

-- the frames of one dialogue that are to be sent, that which is being sent first
abbrev pub unsent_for : ℕ → Outbox → List (List ℕ)
unsent_for local outbox = frame_out local outbox.out ++ frames_for local outbox.frames

-- what a dialogue has, and nothing where there is none
abbrev pub of_row : {X : Type 0} → (Row → List X) → Option Row → List X
of_row f None = []
of_row f (Some row) = f row

-- of these frames, those of a dialogue have this birth
abbrev pub AreBorn : ℕ → ℕ → List Waiting → Type 0
AreBorn local birth frames =
    AllByRecursion (λ (w : Waiting). w.local ≡ local → w.birth ≡ birth) frames

-- how often a dialogue is in the queue
abbrev pub ready_count : Option Row → ℕ
ready_count None = 0
ready_count (Some row) = if is_ready row then 1 else 0

-- how many entries of a dialogue are out as a turn
abbrev pub turns_of : Row → ℕ
turns_of row = row.out

-- how many places for frames are held: by frames that wait, by the one that is being sent, and by entries that are out
abbrev pub places_held : Shelf → ℕ
places_held s = frames_held s.outbox + sum_of turns_of s.rows

-- a dialogue stays as long as something of it is left
abbrev pub keep : FinMap nat_cmp Row → ℕ → Row → FinMap nat_cmp Row
keep rows local row = if is_held row then insert rows local row else remove rows local

-- what a dialogue counted is kept when it goes
abbrev pub gone_with : Totals → Row → Totals
gone_with gone row = if is_held row then gone else with_row gone row

-- its serial may be given again then, after all others
abbrev pub free_with : List ℕ → ℕ → Row → List ℕ
free_with free local row = if is_held row then free else free ++ serial_of local ∷ []

-- a book in which a dialogue is this, or gone if nothing of it is left
abbrev pub with_dialogue : Shelf → ℕ → Row → Shelf
with_dialogue s local row = record s {
  free = free_with s.free local row;
  rows = keep s.rows local row;
  gone = gone_with s.gone row;
}

-- one for each dialogue of a kind
abbrev pub one_if : Bool → ℕ
one_if true = 1
one_if false = 0

-- what holds of each dialogue that is held
pub record IsOwn (s : Shelf) (local : ℕ) (row : Row) : Type 0 where
  pub local_is : row.local ≡ local
  pub is_left : is_held row ≡ true
  pub born : (0 < row.birth) × (row.birth ≤ s.births)
  -- its identifier is one of the link and the tag, and its serial isn't free
  pub serial : (serial : ℕ) × (0 < serial) × (serial ≤ last_serial)
      × (local ≡ identifier (base s) serial) × (is_free serial s.free ≡ false)
  -- each frame of it that waits or is being sent has its birth
  pub frames_born : AreBorn local row.birth (unsent_frames s.outbox)
  -- of a dialogue that was ended from outside no frame waits
  pub dropped : is_some row.ended ≡ true → frames_for local s.outbox.frames ≡ []
  -- where the link is down it is closed
  pub closed : s.is_down ≡ true → row.ended ≡ Some Closed

-- what the type of a book keeps
pub record Sound (s : Shelf) : Type 0 where
  pub links : s.link < 8
  pub tags : s.tag ≤ last_tag
  -- no serial is free twice, and while the link is up each is free or a dialogue's that is held
  pub serials : AreSerials s.free
  pub serial_count : s.is_down ≡ false → length s.free + len s.rows ≡ last_serial
  -- each Begin that was accepted brought an entry, and no two dialogues that are held have the same birth
  pub births : s.births ≤ s.entries
  pub births_apart : (local other : ℕ) (row held : Row)
      → get s.rows local ≡ Some row → get s.rows other ≡ Some held
      → row.birth ≡ held.birth → local ≡ other
  -- an Abort of the peer is taken however many entries there were, and ends its dialogue
  pub entries : s.entries + sum_of (λ row. one_if (is_admitted row)) s.rows ≤ all_entries + 2 * most_dialogues
  pub own : (local : ℕ) (row : Row) → get s.rows local ≡ Some row → IsOwn s local row
  pub held : len s.rows ≤ most_dialogues
  -- of each dialogue: what was sent, and then what is to be sent, is what is kept of the frames that its entries
  -- request
  pub frames : (local : ℕ) → of_row sent_of (get s.rows local) ++ unsent_for local s.outbox ≡ of_row kept_of (get s.rows local)
  -- each dialogue that is ready is once in the queue, and no other
  pub ready : (local : ℕ) → count_by (λ other. other == local) s.ready ≡ ready_count (get s.rows local)
  pub ready_length : length s.ready ≡ sum_of (λ row. one_if (is_ready row)) s.rows
  pub places : places_held s ≤ most_places
  pub aborts : length s.outbox.aborts ≤ most_aborts_waiting
  -- where the link is down nothing waits
  pub quiet : s.is_down ≡ true → (s.outbox.aborts ≡ []) × (s.outbox.frames ≡ [])
  -- each total is the sum over the dialogues that are held, and what was counted of those that aren't
  pub accepted : s.totals.accepted ≡ s.gone.accepted + sum_of accepted_by s.rows
  pub served : s.totals.served ≡ s.gone.served + sum_of served_by s.rows
  pub sent : s.totals.sent ≡ s.gone.sent + sum_of sent_by s.rows
  -- so none of them is more than the entries that were accepted
  pub all_entries : s.gone.served + sum_of (λ row. length row.accepted) s.rows ≤ s.entries
  pub few_accepted : s.totals.accepted ≤ s.entries
  pub gone_sent : s.gone.sent ≤ s.gone.served
