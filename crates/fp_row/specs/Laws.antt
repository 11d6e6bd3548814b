-- What the types of the layer keep.
use Rattle.std.specs.Prelude.{◌≡◌, ◌≢◌, ◌≤◌, true, false, Some, None, ◌++◌, length}
use mathlib.Core.List.{IsPrefix}
use Rattle.fp_row.specs.declared.done.Done.{Done}
use Rattle.fp_row.specs.declared.row.Row.{Row}
use Rattle.fp_row.specs.declared.turn.Turn.{Turn}
use Rattle.fp_row.specs.Row.{entries_out, frames_of, has_turn_out, is_closed, kept_of, queued_of, sent_of, served_of, start_of, turn_out, waiting_of}
use Rattle.fp_row.specs.Turn.{core_then, frames_for, served_in}
use Rattle.fp_service.specs.Dialogue.{is_over}
use Rattle.fp_service.specs.Fold.{core_after, cut}

-- what was served is a front of what the service logic serves of the accepted entries, and what was sent a front of
-- what it requests on that
pub record KeepsOrder (row : Row) : Type 0 where
  pub served : IsPrefix (served_of row) (cut (start_of row) row.accepted)
  pub core : row.core ≡ core_after (start_of row) (served_of row)
  pub queued : IsPrefix (queued_of row) (frames_of row)
  pub kept : IsPrefix (kept_of row) (queued_of row)
  pub sent : IsPrefix (sent_of row) (kept_of row)
  pub all_kept : row.ended ≡ None → kept_of row ≡ frames_of row
  -- each count is of these
  pub served_count : length (served_of row) ≡ row.served
  pub queued_count : length (queued_of row) ≡ row.queued
  pub kept_count : length (kept_of row) ≡ row.kept
  pub sent_count : length (sent_of row) ≡ row.sent
  pub out_count : length (entries_out row) ≡ row.out
  -- no entry requests more than one frame
  pub few_frames : length (frames_of row) ≤ row.served
  -- after what was served come the entries that are out and those that wait
  pub parts : IsPrefix (served_of row ++ (entries_out row ++ waiting_of row)) row.accepted
  pub whole : is_closed row.ended ≡ false → is_over row.core ≡ false → served_of row ++ (entries_out row ++ waiting_of row) ≡ row.accepted
  -- a turn that is out is of the next entries, of a dialogue that isn't over
  pub next : has_turn_out row ≡ true → turn_out row ≢ None
  pub turn : (turn : Turn) → turn_out row ≡ Some turn → entries_out row ≡ turn.entries
  pub live : has_turn_out row ≡ true → is_over row.core ≡ false
  -- the core is one of this dialogue
  pub birth : row.core.birth ≡ row.birth

abbrev pub RowsKeepTheirOrder : Type 0
RowsKeepTheirOrder = (row : Row) → KeepsOrder row

-- what the service step makes of the turn, along its entries up to the first after which the dialogue is over
pub record IsServed (done : Done) : Type 0 where
  pub count : done.served ≡ length (served_in done.turn)
  pub core : done.after ≡ core_then done.turn
  pub frames : done.frames ≡ frames_for done.turn
  -- no more entries than the turn has, and no more frames than entries
  pub within : done.served ≤ length done.turn.entries
  pub few_frames : length done.frames ≤ done.served

abbrev pub TurnsAreServedByTheStep : Type 0
TurnsAreServedByTheStep = (done : Done) → IsServed done
