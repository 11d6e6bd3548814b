-- What becomes of the dialogues of a link where one of them changes.
use Rattle.std.specs.Prelude.{◌≡◌, ℕ, ◌+◌, ◌&&◌, Bool, true, false, not, min, nat_lt, Option, Some, None, List, [], ◌∷◌, ◌++◌, length}
use Rattle.std.specs.Option.{option_map_or}
use Rattle.std.specs.Ordering.{nat_cmp}
use Rattle.std.specs.FinMap.{FinMap, get, insert, remove}
use Rattle.fp_book.specs.declared.dialogues.Dropped.{Dropped}
use Rattle.fp_book.specs.declared.dialogues.Left.{Left}
use Rattle.fp_book.specs.declared.answers.Posted.{Posted}
use Rattle.fp_book.specs.declared.answers.Posted.TheVariants.{Aborted}
use Rattle.fp_book.specs.Calls.{closed_answer}
use Rattle.fp_book.specs.Outbox.{Outbox}
use Rattle.fp_book.specs.Shelf.{keep}
use Rattle.fp_ber.specs.Canon.{canon}
use Rattle.fp_frames.specs.Frame.{framed}
use Rattle.fp_q773.specs.declared.provider_abort.AbortCause.{AbortCause}
use Rattle.fp_q773.specs.ProviderAbort.{cause_code, provider_abort}
use Rattle.fp_q773.specs.Tid.{octets_of, Tid}
use Rattle.fp_reply.specs.ProviderAbort.{AbortFrame, frame_octets}
use Rattle.fp_entry.specs.declared.entry.Entry.{Entry}
use Rattle.fp_entry.specs.declared.entry.EntryKind.TheVariants.{Clock}
use Rattle.fp_entry.specs.Entries.{entry_at}
use Rattle.fp_row.specs.declared.done.Done.{Done}
use Rattle.fp_row.specs.declared.ending.Ending.{Ending}
use Rattle.fp_row.specs.declared.ending.Ending.TheVariants.{ByPeer}
use Rattle.fp_row.specs.declared.requested.Requested.{Requested}
use Rattle.fp_row.specs.declared.requested.Requested.TheVariants as requested
use Rattle.fp_row.specs.declared.row.Row.{Row}
use Rattle.fp_row.specs.declared.served_turn.ServedTurn.{ServedTurn}
use Rattle.fp_row.specs.declared.turn.Turn.{Turn}
use Rattle.fp_row.specs.Calls.{Ends, Extends, Gives, HandsOut, Opens, PutsBack, SendsOne, ServesTurn, sending}
use Rattle.fp_row.specs.Row.{deadline_of, is_admitted, is_due, is_held, is_ready}

abbrev pub Rows : Type 0
Rows = FinMap nat_cmp Row

-- what the other parts of a book need of a dialogue that changed
abbrev pub left_as : Row → Left
left_as row = record {
  birth = row.birth;
  is_held = is_held row;
  is_ready = is_ready row;
  deadline = deadline_of row;
}

-- a deadline is set, or taken away
abbrev pub with_deadline : FinMap nat_cmp ℕ → ℕ → Option ℕ → FinMap nat_cmp ℕ
with_deadline deadlines local None = remove deadlines local
with_deadline deadlines local (Some deadline) = insert deadlines local deadline

-- one dialogue changes so, and goes where nothing of it is left
pub record Changes (R : Row → Row → Type 0) (old : Rows) (local : ℕ) (new : Rows) : Type 0 where
  pub before : Row
  pub after : Row
  pub was : get old local ≡ Some before
  pub does : R before after
  pub rows : new ≡ keep old local after

-- the dialogue hands out a turn
abbrev pub HandsOutAt : ℕ → Rows → ℕ → Turn → Rows → Type 0
HandsOutAt free old local turn new = Changes (λ before after. HandsOut free before turn after) old local new

-- it takes its turn back, served
abbrev pub GivesAt : Rows → Done → Requested → Left → Rows → Type 0
GivesAt old done requested left new = Changes (λ before after. Gives before done requested after × (left ≡ left_as after)) old done.turn.local new

-- it hands out a turn, which is served and given back
abbrev pub ServesAt : ℕ → Rows → ℕ → ServedTurn → Left → Rows → Type 0
ServesAt free old local turn left new = Changes (λ before after. ServesTurn free before turn after × (left ≡ left_as after)) old local new

-- how many requests of a turn these are
abbrev pub request_count : Requested → ℕ
request_count requested.Nothing = 0
request_count (requested.Frames frames) = length frames
request_count (requested.Dropped count) = count

-- it takes it back, not served
abbrev pub PutsBackAt : Rows → Turn → Left → Rows → Type 0
PutsBackAt old turn left new =
    Changes (λ before after. PutsBack before turn after × (left ≡ left_as after)) old turn.local new

-- whether a frame of the dialogue is kept that wasn't sent
abbrev pub is_unsent : Option Row → Bool
is_unsent None = false
is_unsent (Some row) = nat_lt row.sent row.kept

-- one more of its frames was sent, and something of it is left or not
abbrev pub SendsAt : Rows → ℕ → Bool → Rows → Type 0
SendsAt old local held new =
    Changes (λ before after. SendsOne before after × (held ≡ is_held after)) old local new

-- it is ended from outside, and something of it is left or not
abbrev pub EndsAt : Rows → ℕ → Ending → Bool → Bool → Rows → Type 0
EndsAt old local ending is_sending held new =
    Changes (λ before after. Ends ending is_sending before after × (held ≡ is_held after))
    old local new

-- whether a dialogue that is ended drops frames that wait: those that are kept and weren't sent, but the one that is
-- being sent
abbrev pub drops_frames : Row → Bool → Bool
drops_frames row is_sending = nat_lt (min row.kept (row.sent + sending is_sending)) row.kept

-- what of it is to be dropped
pub record Drops (row : Row) (is_sending : Bool) (dropped : Dropped) : Type 0 where
  pub was_ready : dropped.was_ready ≡ is_ready row
  pub frames : dropped.frames ≡ drops_frames row is_sending

-- whether there is a dialogue that takes messages
abbrev pub takes_more : Option Row → Bool
takes_more o = option_map_or is_admitted o false

-- entries come after its others, and then its peer ends it, or not
abbrev pub Grows : List Entry → Bool → Bool → Row → Row → Type 0
Grows entries false is_sending before after = Extends before entries after
Grows entries true is_sending before after = (extended : Row) × Extends before entries extended × Ends ByPeer is_sending extended after

abbrev pub ExtendsAt : Rows → ℕ → List Entry → Bool → Bool → Left → Rows → Type 0
ExtendsAt old local entries ends is_sending left new =
    Changes (λ before after. Grows entries ends is_sending before after × (left ≡ record {
      birth = after.birth;
      is_held = is_held after;
      is_ready = not (is_ready before) && is_ready after;
      deadline = deadline_of after;
    })) old local new

-- a dialogue is opened with these entries
pub record OpensAt (old : Rows) (local : ℕ) (peer : Tid) (birth moment : ℕ) (entries : List Entry) (left : Left) (new : Rows) : Type 0 where
  pub opened : Row
  pub after : Row
  pub opens : Opens local peer birth moment opened
  pub extends : Extends opened entries after
  pub left_is : left ≡ left_as after
  pub rows : new ≡ insert old local after

-- whether there is a dialogue that is due at this moment
abbrev pub is_due_at : Option Row → ℕ → Bool
is_due_at o moment = option_map_or (λ row. is_due row moment) o false

-- the dialogue is given a Clock, and joins those that are ready, or not
pub record ClockedAt (old : Rows) (local moment : ℕ) (joins : Bool) (new : Rows) : Type 0 where
  pub before : Row
  pub after : Row
  pub was : get old local ≡ Some before
  pub extends : Extends before (entry_at moment Clock ∷ []) after
  pub joins_is : joins ≡ (not (is_ready before) && is_ready after)
  pub rows : new ≡ insert old local after

-- what a message that is refused is answered, and what waits to be sent then
abbrev pub AnsweredBy : Outbox → Option (Tid × AbortCause) → Option ℕ → Posted → Outbox → Type 0
AnsweredBy old None closed answer new = (answer ≡ closed_answer closed) × (new ≡ old)
AnsweredBy old (Some (peer, cause)) closed answer new =
    (answer ≡ Aborted cause)
    × ((frame : AbortFrame)
    × (frame_octets frame ≡ framed (canon (provider_abort (octets_of peer) (cause_code cause))))
    × (new ≡ record old { aborts = old.aborts ++ frame ∷ [] }))
