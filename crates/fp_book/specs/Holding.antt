-- When a message is held back: to post it now would get it refused, or leave what it brings unserved, for a cause that
-- goes away as turns are served and frames are sent. And when a link is quiet: nothing is left to be served or sent.
use Rattle.std.specs.Prelude.{◌≡◌, ℕ, ◌&&◌, ◌||◌, not, Bool, true, false, Some, is_some, length, nat_le, nat_lt}
use Rattle.std.specs.FinMap.{get}
use Rattle.fp_book.specs.Limits.{many_places, most_aborts_waiting}
use Rattle.fp_book.specs.declared.verdict.Verdict.{Verdict}
use Rattle.fp_book.specs.declared.verdict.Verdict.TheVariants.{Extend, Open, Refuse}
use Rattle.fp_book.specs.Rules.{is, is_full, too_many, verdict}
use Rattle.fp_book.specs.Outbox.{nothing}
use Rattle.fp_book.specs.Shelf.{Shelf, one_if, places_held, turns_of}
use Rattle.fp_book.specs.Totals.{sum_of}
use Rattle.fp_entry.specs.declared.prepared.Prepared.{Prepared}
use Rattle.fp_entry.specs.declared.prepared.Prepared.TheVariants.{Message}
use Rattle.fp_entry.specs.Prepared.{arrival_of}
use Rattle.fp_q773.specs.declared.kind.Kind.TheVariants.{Begin}
use Rattle.fp_q773.specs.declared.provider_abort.AbortCause.TheVariants as cause
use Rattle.fp_row.specs.declared.row.Row.{Row}
use Rattle.fp_row.specs.Row.{waits}

-- a turn of the dialogue is out, an entry of it waits, or a frame of it is to be sent
abbrev pub is_busy : Row → Bool
is_busy row = nat_lt 0 (turns_of row) || (waits row || nat_lt row.sent row.kept)

-- how many of the dialogues that are held are busy
abbrev pub busy_count : Shelf → ℕ
busy_count s = sum_of (λ row. one_if (is_busy row)) s.rows

-- the verdict is a refusal that names a cause
abbrev pub names_a_cause : Verdict → Bool
names_a_cause (Refuse cause closes) = is_some cause
names_a_cause verdict = false

-- the message is taken: it opens a dialogue, or a dialogue accepts it
abbrev pub is_taken : Verdict → Bool
is_taken (Open peer) = true
is_taken (Extend local ends) = true
is_taken verdict = false

-- its cause is that a limit was reached: cause 4
abbrev pub is_over_a_limit : Verdict → Bool
is_over_a_limit (Refuse (Some cause.ResourceLimitation) closes) = true
is_over_a_limit verdict = false

-- an Abort of the provider answers it, if one more may wait: a cause is named, and the sender gave its identifier
abbrev pub is_owed_an_abort : Shelf → Prepared → Bool
is_owed_an_abort s came = names_a_cause (verdict s came) && is_some (arrival_of came).ids.orig

-- all it lacks is room: it is a readable message without too many elements, on a link that hasn't accepted all entries
abbrev pub lacks_only_room : Shelf → Prepared → Bool
lacks_only_room s (Message arrival incoming) = not (too_many incoming) && not (is_full s)
lacks_only_room s came = false

-- there will be room for it: among the entries of its dialogue once some of these are served; among the dialogues if
-- one of them is busy, since it may go then
abbrev pub gets_room : Shelf → Prepared → Bool
gets_room s came = not (is Begin (arrival_of came).ids.kind) || nat_lt 0 (busy_count s)

-- the message is held back. (Not if memory runs out at its post: it is posted, and its Abort may find no place.)
abbrev pub holds_back : Shelf → Prepared → Bool
holds_back s came =
    -- the link is up, and
    not s.is_down
    -- it would be taken, but most places for frames are held;
    && ((nat_le many_places (places_held s) && is_taken (verdict s came))
    -- or an Abort is to answer it, and as many wait as may;
    || ((is_owed_an_abort s came && nat_le most_aborts_waiting (length s.outbox.aborts))
    -- or it is refused for a limit, but all it lacks is room, and there will be some
    || (is_over_a_limit (verdict s came) && (lacks_only_room s came && gets_room s came))))

-- nothing is ready, out or waiting to be sent
pub record IsQuiet (s : Shelf) : Type 0 where
  -- no dialogue is busy
  pub dialogues : (local : ℕ) (row : Row) → get s.rows local ≡ Some row → is_busy row ≡ false
  -- no frame and no Abort waits or is being sent
  pub outbox : s.outbox ≡ nothing

-- how many entries the dialogues that are held keep: all that each of them accepted
abbrev pub entries_kept : Shelf → ℕ
entries_kept s = sum_of (λ row. length row.accepted) s.rows
