-- What the calls of a row do. Each record says of all that a row has what it is then, and after that what follows for
-- the turn, the entries that wait and the frames.
use Rattle.std.specs.Prelude.{◌≡◌, ◌≤◌, ◌<◌, ℕ, ◌+◌, Bool, true, false, List, [], ◌∷◌, ◌++◌, Option, Some, None, min, length, take, nat_lt, if◌then◌else◌}
use Rattle.fp_entry.specs.declared.entry.Entry.{Entry}
use Rattle.fp_entry.specs.declared.entry.EntryKind.TheVariants.{Clock}
use Rattle.fp_entry.specs.Entries.{entry_at}
use Rattle.fp_q773.specs.Tid.{Tid}
use Rattle.fp_row.specs.declared.done.Done.{Done}
use Rattle.fp_row.specs.declared.ending.Ending.{Ending}
use Rattle.fp_row.specs.declared.ending.Ending.TheVariants.{ByPeer, Closed}
use Rattle.fp_row.specs.declared.requested.Requested.{Requested}
use Rattle.fp_row.specs.declared.requested.Requested.TheVariants.{Nothing, Frames, Dropped}
use Rattle.fp_row.specs.declared.row.Row.{Row}
use Rattle.fp_row.specs.declared.served_turn.ServedTurn.{ServedTurn}
use Rattle.fp_row.specs.declared.turn.Turn.{Turn}
use Rattle.fp_row.specs.Row.{deadline_of, frames_of, is_admitted, is_closed, is_ready, kept_of, queued_of, sent_of, turn_out, waiting_of}
use Rattle.fp_row.specs.Turn.{birth_of, most_entries}
use Rattle.fp_service.specs.Dialogue.{fresh, is_over}

-- the dialogue is the same
pub record IsSame (old new : Row) : Type 0 where
  pub local : new.local ≡ old.local
  pub peer : new.peer ≡ old.peer
  pub birth : new.birth ≡ old.birth
  pub opened : new.opened ≡ old.opened

-- nothing was served, accepted for sending, dropped or sent
pub record FramesStay (old new : Row) : Type 0 where
  pub served : new.served ≡ old.served
  pub core : new.core ≡ old.core
  pub queued : new.queued ≡ old.queued
  pub kept : new.kept ≡ old.kept
  pub sent : new.sent ≡ old.sent
  pub all_frames : frames_of new ≡ frames_of old
  pub queued_frames : queued_of new ≡ queued_of old
  pub kept_frames : kept_of new ≡ kept_of old
  pub sent_frames : sent_of new ≡ sent_of old

-- a dialogue is opened
pub record Opens (local : ℕ) (peer : Tid) (birth moment : ℕ) (row : Row) : Type 0 where
  pub local_is : row.local ≡ local
  pub peer_is : row.peer ≡ peer
  pub birth_is : row.birth ≡ birth
  pub opened : row.opened ≡ moment
  pub accepted : row.accepted ≡ []
  pub served : row.served ≡ 0
  pub core : row.core ≡ fresh birth moment
  pub queued : row.queued ≡ 0
  pub kept : row.kept ≡ 0
  pub sent : row.sent ≡ 0
  pub out : row.out ≡ 0
  pub ended : row.ended ≡ None

-- these entries come after the others
pub record Extends (old : Row) (entries : List Entry) (new : Row) : Type 0 where
  pub same : IsSame old new
  pub accepted : new.accepted ≡ old.accepted ++ entries
  pub stay : FramesStay old new
  pub out : new.out ≡ old.out
  pub ended : new.ended ≡ old.ended
  pub turn : turn_out new ≡ turn_out old
  pub waiting : is_admitted old ≡ true → waiting_of new ≡ waiting_of old ++ entries
  pub ready_stays : is_ready old ≡ true → is_ready new ≡ true

-- the entries were taken, or nothing changed
abbrev pub Accepts : Bool → Row → List Entry → Row → Type 0
Accepts true old entries new = Extends old entries new
Accepts false old entries new = new ≡ old

-- a Clock was taken, or nothing changed
abbrev pub Clocks : Bool → Row → ℕ → Row → Type 0
Clocks taken old moment new = Accepts taken old (entry_at moment Clock ∷ []) new

-- the turn of the next entries is out: of those that wait, as many as have a place of these, at most sixteen
pub record HandsOut (free : ℕ) (old : Row) (turn : Turn) (new : Row) : Type 0 where
  pub was_ready : is_ready old ≡ true
  pub turn_is : turn_out new ≡ Some turn
  pub local : turn.local ≡ old.local
  pub birth : birth_of turn ≡ old.birth
  pub same : IsSame old new
  pub accepted : new.accepted ≡ old.accepted
  pub stay : FramesStay old new
  pub out : new.out ≡ length turn.entries
  pub ended : new.ended ≡ old.ended
  pub count : length turn.entries ≡ min most_entries (min (length (waiting_of old)) free)
  pub some : 0 < length turn.entries
  pub waiting : waiting_of old ≡ turn.entries ++ waiting_of new
  pub deadline : deadline_of new ≡ deadline_of old

-- a turn was handed out, or the dialogue wasn't ready
abbrev pub Takes : ℕ → Row → Option Turn → Row → Type 0
Takes free old (Some turn) new = HandsOut free old turn new
Takes free old None new = (is_ready old ≡ false) × (new ≡ old)

-- the requests of a dialogue that was ended from outside aren't accepted
abbrev pub requested_of : Option Ending → List (List ℕ) → Requested
requested_of ended [] = Nothing
requested_of None (frame ∷ frames) = Frames (frame ∷ frames)
requested_of (Some ending) (frame ∷ frames) = Dropped (length (frame ∷ frames))

-- the frames that are to be sent
abbrev pub frames_in : Requested → List (List ℕ)
frames_in Nothing = []
frames_in (Frames frames) = frames
frames_in (Dropped count) = []

-- the entries of the turn that was out are served, up to the one that ends the dialogue; those after it wait again, and
-- are dropped as all that wait then
pub record Gives (old : Row) (done : Done) (requested : Requested) (new : Row) : Type 0 where
  pub was_out : turn_out old ≡ Some done.turn
  pub count : length done.turn.entries ≡ old.out
  pub requested_is : requested ≡ requested_of old.ended done.frames
  pub same : IsSame old new
  pub accepted : new.accepted ≡ old.accepted
  pub served : new.served ≡ old.served + done.served
  pub core : new.core ≡ done.after
  pub queued : new.queued ≡ old.queued + length (frames_in requested)
  pub kept : new.kept ≡ old.kept + length (frames_in requested)
  pub sent : new.sent ≡ old.sent
  pub out : new.out ≡ 0
  pub ended : new.ended ≡ old.ended
  pub turn : turn_out new ≡ None
  -- no more entries were served than were out, and no more frames are to be sent
  pub few_served : done.served ≤ old.out
  pub few_frames : length (frames_in requested) ≤ old.out
  pub waiting : waiting_of new ≡ (if is_over done.after then [] else waiting_of old)
  pub all_frames : frames_of new ≡ frames_of old ++ done.frames
  pub queued_frames : queued_of new ≡ queued_of old ++ frames_in requested
  pub kept_frames : kept_of new ≡ kept_of old ++ frames_in requested
  pub sent_frames : sent_of new ≡ sent_of old

-- the turn of the next entries was handed out, served and given back, and this is what came of it
pub record ServesTurn (free : ℕ) (old : Row) (turn : ServedTurn) (new : Row) : Type 0 where
  pub done : Done
  pub between : Row
  pub takes : HandsOut free old done.turn between
  pub gives : Gives between done turn.requested new
  pub position : turn.position ≡ done.turn.position
  pub count : turn.count ≡ length done.turn.entries
  pub served : turn.served ≡ done.served

-- a turn was served, or the dialogue wasn't ready
abbrev pub ServesNext : ℕ → Row → Option ServedTurn → Row → Type 0
ServesNext free old (Some turn) new = ServesTurn free old turn new
ServesNext free old None new = (is_ready old ≡ false) × (new ≡ old)

-- the turn that was out is out no longer
pub record PutsBack (old : Row) (turn : Turn) (new : Row) : Type 0 where
  pub was_out : turn_out old ≡ Some turn
  pub count : length turn.entries ≡ old.out
  pub same : IsSame old new
  pub accepted : new.accepted ≡ old.accepted
  pub stay : FramesStay old new
  pub out : new.out ≡ 0
  pub ended : new.ended ≡ old.ended
  pub no_turn : turn_out new ≡ None
  pub waiting : waiting_of new ≡ (if is_closed old.ended then [] else turn.entries ++ waiting_of old)
  pub deadline : deadline_of new ≡ deadline_of old

-- one more of the kept frames was sent
pub record SendsOne (old new : Row) : Type 0 where
  pub left : nat_lt old.sent old.kept ≡ true
  pub same : IsSame old new
  pub accepted : new.accepted ≡ old.accepted
  pub served : new.served ≡ old.served
  pub core : new.core ≡ old.core
  pub queued : new.queued ≡ old.queued
  pub kept : new.kept ≡ old.kept
  pub sent : new.sent ≡ old.sent + 1
  pub out : new.out ≡ old.out
  pub ended : new.ended ≡ old.ended
  pub turn : turn_out new ≡ turn_out old
  pub waiting : waiting_of new ≡ waiting_of old
  pub deadline : deadline_of new ≡ deadline_of old
  pub all_frames : frames_of new ≡ frames_of old
  pub kept_frames : kept_of new ≡ kept_of old
  pub queued_frames : queued_of new ≡ queued_of old
  pub one_more : (frame : List ℕ) (rest : List (List ℕ)) → sent_of old ++ frame ∷ rest ≡ kept_of old → sent_of new ≡ sent_of old ++ frame ∷ []
  pub ready_stays : is_ready new ≡ is_ready old

-- one was sent, or none was left
abbrev pub Sends : Bool → Row → Row → Type 0
Sends true old new = SendsOne old new
Sends false old new = (nat_lt old.sent old.kept ≡ false) × (new ≡ old)

-- a dialogue that was closed stays so
abbrev pub ended_by : Ending → Option Ending → Option Ending
ended_by ending None = Some ending
ended_by ending (Some ByPeer) = Some ending
ended_by ending (Some Closed) = Some Closed

-- how many frames that weren't sent are kept: the one that is being sent
abbrev pub sending : Bool → ℕ
sending true = 1
sending false = 0

-- the dialogue was ended from outside
pub record Ends (ending : Ending) (is_sending : Bool) (old new : Row) : Type 0 where
  pub same : IsSame old new
  pub accepted : new.accepted ≡ old.accepted
  pub served : new.served ≡ old.served
  pub core : new.core ≡ old.core
  pub queued : new.queued ≡ old.queued
  pub kept : new.kept ≡ min old.kept (old.sent + sending is_sending)
  pub sent : new.sent ≡ old.sent
  pub out : new.out ≡ old.out
  pub ended : new.ended ≡ ended_by ending old.ended
  pub turn : turn_out new ≡ turn_out old
  pub waiting : waiting_of new ≡ (if is_closed new.ended then [] else waiting_of old)
  pub deadline : deadline_of new ≡ None
  pub all_frames : frames_of new ≡ frames_of old
  pub queued_frames : queued_of new ≡ queued_of old
  pub kept_frames : kept_of new ≡ take (old.sent + sending is_sending) (kept_of old)
  pub sent_frames : sent_of new ≡ sent_of old
