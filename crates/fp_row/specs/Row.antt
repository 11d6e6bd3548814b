-- One dialogue: what of the entries that it accepted was served, what those request, and what of that was sent.
use Rattle.std.specs.Prelude.{◌≡◌, ℕ, Bool, true, false, not, ◌&&◌, ◌||◌, List, [], Option, Some, None, is_some, length, take, drop, count_by, nat_lt, nat_le, if◌then◌else◌}
use Rattle.std.specs.Option.{option_map_or}
use Rattle.fp_entry.specs.declared.entry.Entry.{Entry}
use Rattle.fp_entry.specs.Entries.{is_clock, place_count}
use Rattle.fp_row.specs.declared.ending.Ending.{Ending}
use Rattle.fp_row.specs.declared.ending.Ending.TheVariants.{ByPeer, Closed}
use Rattle.fp_row.specs.declared.row.Row.{Row}
use Rattle.fp_row.specs.declared.turn.Turn.{Turn}
use Rattle.fp_service.specs.declared.dialogue.Core.{Core}
use Rattle.fp_service.specs.declared.request.Request.{Request}
use Rattle.fp_service.specs.Dialogue.{fresh, is_over, next_due}
use Rattle.fp_service.specs.Fold.{requests}
use Rattle.fp_row.specs.Turn.{frames_under}

-- the core with which it begins
abbrev pub start_of : Row → Core
start_of row = fresh row.birth row.opened

-- the entries that were served: the first ones
abbrev pub served_of : Row → List Entry
served_of row = take row.served row.accepted

-- the others; if a turn is out, its entries are the first of them
abbrev pub unserved : Row → List Entry
unserved row = drop row.served row.accepted

-- what the entries that were served request, in order
abbrev pub requests_of : Row → List Request
requests_of row = requests (start_of row) (served_of row)

-- the frames of these, under its own identifiers
abbrev pub frames_of : Row → List (List ℕ)
frames_of row = frames_under row.local row.peer (requests_of row)

-- those that were accepted for sending
abbrev pub queued_of : Row → List (List ℕ)
queued_of row = take row.queued (frames_of row)

-- those of them that are still to be sent, or were sent
abbrev pub kept_of : Row → List (List ℕ)
kept_of row = take row.kept (frames_of row)

-- those that were sent
abbrev pub sent_of : Row → List (List ℕ)
sent_of row = take row.sent (frames_of row)

-- whether it was closed, so that what waits is dropped
abbrev pub is_closed : Option Ending → Bool
is_closed None = false
is_closed (Some ByPeer) = false
is_closed (Some Closed) = true

-- whether it takes messages
abbrev pub is_admitted : Row → Bool
is_admitted row = not (is_some row.ended) && not (is_over row.core)

-- whether an entry is still to be served
abbrev pub waits : Row → Bool
waits row = not (is_closed row.ended) && (not (is_over row.core) && nat_lt row.served (length row.accepted))

-- whether a turn is out: whether any entry is
abbrev pub has_turn_out : Row → Bool
has_turn_out row = nat_lt 0 row.out

-- whether an entry waits and no turn is out
abbrev pub is_ready : Row → Bool
is_ready row = not (has_turn_out row) && waits row

-- whether something of it is left
abbrev pub is_held : Row → Bool
is_held row = is_admitted row || (has_turn_out row || (waits row || nat_lt row.sent row.kept))

-- the entries of the turn that is out
abbrev pub entries_out : Row → List Entry
entries_out row = take row.out (unserved row)

-- the entries that wait: those after the ones that are out, and none if the dialogue was closed or its core is over
abbrev pub waiting_of : Row → List Entry
waiting_of row = if is_closed row.ended || is_over row.core then [] else drop row.out (unserved row)

-- how many entries that weren't served take a place
abbrev pub places_taken : Row → ℕ
places_taken row = place_count (unserved row)

-- whether a Clock waits or is out
abbrev pub has_clock : Row → Bool
has_clock row = nat_lt 0 (count_by (λ (entry : Entry). is_clock entry.kind) (unserved row))

-- the moment from which it is given a Clock
abbrev pub deadline_of : Row → Option ℕ
deadline_of row = if is_admitted row && not (has_clock row) then Some (next_due row.core) else None

-- whether it is given a Clock at this moment
abbrev pub is_due : Row → ℕ → Bool
is_due row moment = option_map_or (λ deadline. nat_le deadline moment) (deadline_of row) false

-- the turn of these entries
abbrev pub turn_of : Row → List Entry → Turn
turn_of row entries = record { local = row.local; peer = row.peer; position = row.served; before = row.core; entries = entries }

-- the turn that is out
abbrev pub turn_out : Row → Option Turn
turn_out row = if has_turn_out row then Some (turn_of row (entries_out row)) else None

-- the turn is of this dialogue, at its next position and core
pub record IsFromHere (row : Row) (turn : Turn) : Type 0 where
  pub local : row.local ≡ turn.local
  pub peer : row.peer ≡ turn.peer
  pub position : row.served ≡ turn.position
  pub core : row.core ≡ turn.before
