-- What the calls of a book do. Each says what the whole book is then.
use Rattle.std.specs.Prelude.{◌≡◌, ◌≢◌, ◌<◌, ◌≤◌, ◌+◌, ◌-◌, ◌==◌, ◌&&◌, ℕ, Bool, true, false, not, List, [], ◌∷◌, ◌++◌, Option, Some, None, IsSome, length, filter, map, nat_lt, nat_eq, ◌⊎◌, if◌then◌else◌, All, AllPairs, ⊤}
use Rattle.std.specs.List.{list_any}
use Rattle.std.specs.FinMap.{get, insert}
use Rattle.fp_book.specs.Limits.{most_aborts_waiting, most_places}
use Rattle.fp_book.specs.declared.answers.Given.{Given}
use Rattle.fp_book.specs.declared.answers.Given.TheVariants.{Silent, Queued, Dropped}
use Rattle.fp_book.specs.declared.answers.Posted.{Posted}
use Rattle.fp_book.specs.declared.answers.Posted.TheVariants.{Opened, Accepted, Aborted, Ended, Discarded}
use Rattle.fp_book.specs.declared.line.Line.{Line}
use Rattle.fp_book.specs.declared.line.LoggedStep.{LoggedStep}
use Rattle.fp_book.specs.declared.line.LoggedStep.TheVariants as line
use Rattle.fp_book.specs.declared.parcel.Content.{Content}
use Rattle.fp_book.specs.declared.parcel.Content.TheVariants as content
use Rattle.fp_book.specs.declared.parcel.Parcel.{Parcel}
use Rattle.fp_book.specs.declared.parcel.Picked.{Picked}
use Rattle.fp_book.specs.declared.parcel.Picked.TheVariants as answers
use Rattle.fp_book.specs.declared.parcel.Waiting.{Waiting}
use Rattle.fp_book.specs.declared.in_place.InPlace.{InPlace}
use Rattle.fp_book.specs.declared.in_place.InPlace.TheVariants as in_place
use Rattle.fp_book.specs.declared.taken.Taken.{Taken}
use Rattle.fp_book.specs.declared.taken.Taken.TheVariants.{Turn as ATurn, Nothing, NoRoom, Memory}
use Rattle.fp_book.specs.declared.totals.Totals.{Totals}
use Rattle.fp_book.specs.declared.verdict.Verdict.{Verdict}
use Rattle.fp_book.specs.declared.verdict.Verdict.TheVariants.{Discard, Refuse, Open, Extend}
pub use Rattle.fp_book.specs.Rules.{entries_in}
use Rattle.fp_book.specs.Rules.{is_full, verdict}
use Rattle.fp_book.specs.Log.{Drains, logged}
use Rattle.fp_book.specs.Outbox.{Outbox, IsNext, nothing, waiting_frames, with_nothing_out, without_frames_of}
use Rattle.fp_book.specs.Parcel.{birth_of, is_frame_of}
use Rattle.fp_book.specs.Shelf.{Shelf, base, places_held, with_dialogue}
use Rattle.fp_book.specs.Totals.{accepted_by, sent_by, served_by, sum_of}
use Rattle.fp_entry.specs.declared.entry.Entry.{Entry}
use Rattle.fp_entry.specs.declared.prepared.Prepared.{Prepared}
use Rattle.fp_entry.specs.declared.prepared.Prepared.TheVariants as prepared
use Rattle.fp_entry.specs.declared.entry.EntryKind.TheVariants.{Clock}
use Rattle.fp_entry.specs.Entries.{component_count, entry_at}
use Rattle.fp_entry.specs.Prepared.{arrival_of}
use Rattle.fp_q773.specs.declared.provider_abort.AbortCause.{AbortCause}
use Rattle.fp_q773.specs.Tid.{Tid, octets_of}
use Rattle.fp_q773.specs.ProviderAbort.{cause_code, provider_abort}
use Rattle.fp_ber.specs.Canon.{canon}
use Rattle.fp_frames.specs.Frame.{framed}
use Rattle.fp_reply.specs.ProviderAbort.{AbortFrame, frame_octets}
use Rattle.fp_row.specs.declared.done.Done.{Done}
use Rattle.fp_row.specs.declared.ending.Ending.TheVariants.{ByPeer, Closed}
use Rattle.fp_row.specs.Rows.{ClosesAt}
use Rattle.fp_row.specs.declared.requested.Requested.{Requested}
use Rattle.fp_row.specs.declared.requested.Requested.TheVariants as requested
use Rattle.fp_row.specs.declared.row.Row.{Row}
use Rattle.fp_row.specs.declared.turn.Turn.{Turn}
use Rattle.fp_row.specs.Calls.{Ends, Extends, Gives, HandsOut, Opens, PutsBack, SendsOne}
use Rattle.fp_row.specs.Row.{deadline_of, is_due, is_ready, turn_out, has_turn_out}
use Rattle.fp_tids.specs.Identifiers.{identifier}
pub use Rattle.fp_timers.specs.Deadlines.{ComesFirst, Due}

-- a dialogue that has become ready comes after the others
abbrev pub joins : ℕ → Bool → List ℕ
joins local true = local ∷ []
joins local false = []

-- all but one
abbrev pub without : ℕ → List ℕ → List ℕ
without local ready = filter (λ other. not (other == local)) ready

-- what is counted then
abbrev pub more_served : Totals → ℕ → Totals
more_served totals count = record totals { served = totals.served + count }

abbrev pub one_sent : Totals → Totals
one_sent totals = record totals { sent = totals.sent + 1 }

abbrev pub more_accepted : Totals → List Entry → Totals
more_accepted totals entries = record totals { accepted = totals.accepted + component_count entries }

-- DRAIN: the oldest lines come after others, as many as there is room for
pub record DrainsBook (old : Shelf) (lines : List Line) (room : ℕ) (new : Shelf) (more : List Line) : Type 0 where
  pub drains : Drains old.link old.log lines room new.log more
  pub new_is : new ≡ record old { log = new.log }

-- TAKE: the dialogue that has been ready longest gets a turn

pub record TakesTurn (old : Shelf) (turn : Turn) (new : Shelf) : Type 0 where
  pub before : Row
  pub after : Row
  pub rest : List ℕ
  pub was : get old.rows turn.local ≡ Some before
  pub takes : HandsOut (most_places - places_held old) before turn after
  pub first : old.ready ≡ turn.local ∷ rest
  pub room : places_held old < most_places
  pub new_is : new ≡ record old {
    rows = insert old.rows turn.local after;
    ready = rest;
    log = logged old.log (line.Take before.birth turn.position (length turn.entries));
  }

abbrev pub Takes : Shelf → Taken → Shelf → Type 0
Takes old (ATurn turn) new = TakesTurn old turn new
Takes old Nothing new = (old.ready ≡ []) × (new ≡ old)
Takes old NoRoom new = (old.ready ≢ []) × (most_places ≤ places_held old) × (new ≡ old)
Takes old Memory new = (old.ready ≢ []) × (places_held old < most_places) × (new ≡ old)

-- where nothing is handed out no dialogue is ready
abbrev pub NoneReady : Taken → Shelf → Type 0
NoneReady (ATurn turn) s = ⊤
NoneReady Nothing s = (local : ℕ) (row : Row) → get s.rows local ≡ Some row → is_ready row ≡ false
NoneReady NoRoom s = ⊤
NoneReady Memory s = ⊤

-- GIVE: the turn that was out was served

abbrev pub given_of : Requested → Given
given_of requested.Nothing = Silent
given_of (requested.Frames frames) = Queued (length frames)
given_of (requested.Dropped count) = Dropped count

abbrev pub waiting_in : ℕ → ℕ → Requested → List Waiting
waiting_in local birth requested.Nothing = []
waiting_in local birth (requested.Frames frames) = waiting_frames local birth frames
waiting_in local birth (requested.Dropped count) = []

pub record GivesDone (old : Shelf) (done : Done) (given : Given) (new : Shelf) : Type 0 where
  pub before : Row
  pub after : Row
  pub asked : Requested
  pub was : get old.rows done.turn.local ≡ Some before
  pub gives : Gives before done asked after
  pub given_is : given ≡ given_of asked
  pub new_is : new ≡ record (with_dialogue old done.turn.local after) {
    ready = old.ready ++ joins done.turn.local (is_ready after);
    outbox = record old.outbox {
      frames = old.outbox.frames ++ waiting_in done.turn.local before.birth asked;
    };
    totals = more_served old.totals done.served;
    log = logged old.log (line.Give before.birth done.turn.position done.served given);
  }

-- SERVE: a turn is handed out, served and given back, and nothing comes between

-- so the log has both lines, the one after the other
pub record ServesTurn (old : Shelf) (count : ℕ) (given : Given) (new : Shelf) : Type 0 where
  pub done : Done
  pub between : Shelf
  pub takes : TakesTurn old done.turn between
  pub gives : GivesDone between done given new
  pub count_is : count ≡ done.served

-- a turn was served, or none is handed out
abbrev pub Serves : Shelf → InPlace → Shelf → Type 0
Serves old (in_place.Served count given) new = ServesTurn old count given new
Serves old in_place.Nothing new = Takes old Nothing new × NoneReady Nothing old
Serves old in_place.NoRoom new = Takes old NoRoom new
Serves old in_place.Memory new = Takes old Memory new

-- the turn of a dialogue that is out
abbrev pub turn_of : Option Row → Option Turn
turn_of None = None
turn_of (Some row) = turn_out row

-- PUT BACK: the turn that was out wasn't served

pub record PutsTurnBack (old : Shelf) (turn : Turn) (new : Shelf) : Type 0 where
  pub before : Row
  pub after : Row
  pub was : get old.rows turn.local ≡ Some before
  pub puts : PutsBack before turn after
  pub new_is : new ≡ record (with_dialogue old turn.local after) {
    ready = old.ready ++ joins turn.local (is_ready after);
    log = logged old.log (line.PutBack before.birth turn.position);
  }

-- PICK: what is sent next is handed out

pub record PicksParcel (old : Shelf) (picked : Content) (new : Shelf) : Type 0 where
  pub rest : Outbox
  pub none_out : old.outbox.out ≡ None
  pub next : IsNext old.outbox picked rest
  pub new_is : new ≡ record old {
    outbox = record { aborts = rest.aborts; frames = rest.frames; out = Some picked };
    log = logged old.log (line.Pick (birth_of picked));
  }

-- what a pick hands out
abbrev pub Hands : Shelf → Picked → Shelf → Type 0
Hands old (answers.Parcel parcel) new = (parcel.link ≡ old.link) × PicksParcel old parcel.content new
-- a parcel is out already
Hands old answers.Busy new = IsSome old.outbox.out × (new ≡ old)
-- nothing waits
Hands old answers.Nothing new = (old.outbox ≡ nothing) × (new ≡ old)

-- the parcel is of this link, and it is the one that is out
abbrev pub IsOut : Shelf → Parcel → Type 0
IsOut s parcel = (parcel.link ≡ s.link) × (s.outbox.out ≡ Some parcel.content)

-- SENT: what was being sent was sent

pub record SendsFrame (old : Shelf) (w : Waiting) (new : Shelf) : Type 0 where
  pub before : Row
  pub after : Row
  pub was_out : old.outbox.out ≡ Some (content.Frame w)
  pub was : get old.rows w.local ≡ Some before
  pub sends : SendsOne before after
  pub new_is : new ≡ record (with_dialogue old w.local after) {
    outbox = with_nothing_out old.outbox;
    totals = one_sent old.totals;
    log = logged old.log (line.Sent w.birth);
  }

pub record SendsAbort (old : Shelf) (frame : AbortFrame) (new : Shelf) : Type 0 where
  pub was_out : old.outbox.out ≡ Some (content.Abort frame)
  pub new_is : new ≡ record old { outbox = with_nothing_out old.outbox; log = logged old.log (line.Sent 0) }

abbrev pub Sends : Shelf → Content → Shelf → Type 0
Sends old (content.Frame w) new = SendsFrame old w new
Sends old (content.Abort frame) new = SendsAbort old frame new

-- DOWN: all dialogues are closed, and what waits is dropped

-- `out` is what is still being sent. Going down ends no serial; a dialogue that goes afterwards does;
-- nobody sees it, since no Begin is accepted any more.
pub record GoesDown (out : Option Content) (old : Shelf) (step : LoggedStep) (new : Shelf) : Type 0 where
  pub rows : (local : ℕ) → ClosesAt (is_frame_of local out) (get old.rows local) (get new.rows local)
  -- what was counted of the dialogues that are no longer held is kept
  pub accepted : new.gone.accepted + sum_of accepted_by new.rows ≡ old.gone.accepted + sum_of accepted_by old.rows
  pub served : new.gone.served + sum_of served_by new.rows ≡ old.gone.served + sum_of served_by old.rows
  pub sent : new.gone.sent + sum_of sent_by new.rows ≡ old.gone.sent + sum_of sent_by old.rows
  pub new_is : new ≡ record old {
    rows = new.rows;
    ready = [];
    outbox = record { aborts = []; frames = []; out = out };
    gone = new.gone;
    log = logged old.log step;
    is_down = true;
  }

pub record Unsends (old : Shelf) (parcel : Parcel) (new : Shelf) : Type 0 where
  pub was_out : old.outbox.out ≡ Some parcel.content
  pub down : GoesDown None old (line.Unsent (birth_of parcel.content)) new

-- TICK: each dialogue that is due is given a Clock

-- whether a dialogue is given a Clock at a moment; none is, once the link has accepted 2^63 entries
abbrev pub due_at : Shelf → ℕ → Row → Bool
due_at s moment row = not (is_full s) && is_due row moment

-- the dialogue is due, and this is its deadline
pub record IsDue (s : Shelf) (moment : ℕ) (due : Due) : Type 0 where
  pub row : Row
  pub was : get s.rows due.1 ≡ Some row
  pub deadline : deadline_of row ≡ Some due.0
  pub now : due_at s moment row ≡ true

-- a dialogue got a Clock, or is as it was
abbrev pub ClocksAt : Bool → ℕ → Option Row → Option Row → Type 0
ClocksAt false moment before left = left ≡ before
ClocksAt true moment before None = ⊥
ClocksAt true moment None (Some after) = ⊥
ClocksAt true moment (Some before) (Some after) = Extends before (entry_at moment Clock ∷ []) after

-- whether a dialogue wasn't ready and no turn of it is out
abbrev pub is_idle : Option Row → Bool
is_idle None = false
is_idle (Some row) = not (has_turn_out row) && not (is_ready row)

pub record Ticks (old : Shelf) (moment added wanting : ℕ) (new : Shelf) : Type 0 where
  -- those that are given a Clock, in their order
  pub due : List Due
  pub in_order : AllPairs ComesFirst due
  pub are_due : All (IsDue old moment) due
  pub added_is : added ≡ length due
  pub wanting_is : added + wanting ≡ sum_of (λ row. if due_at old moment row then 1 else 0) old.rows
  -- those that are left are due still
  pub left : is_full old ≡ false → wanting ≡ sum_of (λ row. if is_due row moment then 1 else 0) new.rows
  pub rows : (local : ℕ) → ClocksAt (list_any (λ (d : Due). d.1 == local) due) moment (get old.rows local) (get new.rows local)
  pub new_is : new ≡ record old {
    entries = old.entries + added;
    rows = new.rows;
    ready = old.ready ++ filter (λ local. is_idle (get old.rows local)) (map (λ (d : Due). d.1) due);
    log = if nat_eq (added + wanting) 0 then old.log else logged old.log (line.Tick moment added wanting);
  }

-- POST

-- a step of a message is logged with its answer
abbrev pub posted_line : Prepared → Posted → LoggedStep
posted_line (prepared.Message arrival incoming) answer =
    line.Post arrival.table arrival.moment arrival.frame answer
posted_line (prepared.Refused arrival fault) answer =
    line.Post arrival.table arrival.moment arrival.frame answer
posted_line (prepared.Lost arrival) answer = line.Lost arrival.moment arrival.frame answer

-- a dialogue is opened
pub record OpensDialogue (old : Shelf) (peer : Tid) (came : Prepared) (answer : Posted) (new : Shelf) : Type 0 where
  pub serial : ℕ
  pub rest : List ℕ
  pub opened : Row
  pub after : Row
  -- the next serial is given
  pub first : old.free ≡ serial ∷ rest
  pub opens : Opens (identifier (base old) serial) peer (old.births + 1)
      (arrival_of came).moment opened
  pub extends : Extends opened (entries_in came) after
  pub answer_is : answer ≡ Opened (identifier (base old) serial)
  pub new_is : new ≡ record old {
    free = rest;
    births = old.births + 1;
    entries = old.entries + length (entries_in came);
    rows = insert old.rows (identifier (base old) serial) after;
    ready = old.ready ++ joins (identifier (base old) serial) (is_ready after);
    totals = more_accepted old.totals (entries_in came);
    log = logged old.log (posted_line came answer);
  }

-- a dialogue accepts a message
pub record ExtendsDialogue (old : Shelf) (local : ℕ) (came : Prepared) (answer : Posted) (new : Shelf) : Type 0 where
  pub before : Row
  pub after : Row
  pub was : get old.rows local ≡ Some before
  pub extends : Extends before (entries_in came) after
  pub answer_is : answer ≡ Accepted (length (entries_in came))
  pub new_is : new ≡ record old {
    entries = old.entries + length (entries_in came);
    rows = insert old.rows local after;
    ready = old.ready ++ joins local (not (is_ready before) && is_ready after);
    totals = more_accepted old.totals (entries_in came);
    log = logged old.log (posted_line came answer);
  }

-- a dialogue accepts the peer's end or abort: its frames that wait are dropped
pub record EndsDialogue (old : Shelf) (local : ℕ) (came : Prepared) (answer : Posted) (new : Shelf) : Type 0 where
  pub before : Row
  pub extended : Row
  pub after : Row
  pub was : get old.rows local ≡ Some before
  pub extends : Extends before (entries_in came) extended
  pub ends : Ends ByPeer (is_frame_of local old.outbox.out) extended after
  pub answer_is : answer ≡ Accepted (length (entries_in came))
  pub new_is : new ≡ record (with_dialogue old local after) {
    entries = old.entries + length (entries_in came);
    ready = old.ready ++ joins local (not (is_ready before) && is_ready after);
    outbox = without_frames_of local old.outbox;
    totals = more_accepted old.totals (entries_in came);
    log = logged old.log (posted_line came answer);
  }

-- the dialogue that is closed, if one is
pub record ClosesDialogue (old : Shelf) (local : ℕ) (new : Shelf) : Type 0 where
  pub before : Row
  pub after : Row
  pub was : get old.rows local ≡ Some before
  pub ends : Ends Closed (is_frame_of local old.outbox.out) before after
  pub new_is : new ≡ record (with_dialogue old local after) { ready = without local old.ready; outbox = without_frames_of local old.outbox }

abbrev pub ClosesOne : Shelf → Option ℕ → Shelf → Type 0
ClosesOne old None new = new ≡ old
ClosesOne old (Some local) new = ClosesDialogue old local new

-- what is answered where no Abort of the provider is sent
abbrev pub closed_answer : Option ℕ → Posted
closed_answer None = Discarded
closed_answer (Some local) = Ended

-- the Abort of the provider that is sent: a cause is named, the message has its sender's identifier, and fewer wait
-- already than may
abbrev pub abort_for : ℕ → Option AbortCause → Option Tid → Option (Tid × AbortCause)
abort_for waiting (Some cause) (Some peer) = if nat_lt waiting most_aborts_waiting then Some (peer, cause) else None
abort_for waiting _ _ = None

-- an Abort of the provider waits after the others
pub record Queues (old : Shelf) (peer : Tid) (cause : AbortCause) (new : Shelf) : Type 0 where
  pub frame : AbortFrame
  pub frame_is : frame_octets frame ≡ framed (canon (provider_abort (octets_of peer) (cause_code cause)))
  pub new_is : new ≡ record old { outbox = record old.outbox { aborts = old.outbox.aborts ++ frame ∷ [] } }

abbrev pub Answers : Shelf → Option ℕ → Option (Tid × AbortCause) → Posted → Shelf → Type 0
Answers old closed None answer new = (answer ≡ closed_answer closed) × (new ≡ old)
Answers old closed (Some (peer, cause)) answer new = (answer ≡ Aborted cause) × Queues old peer cause new

-- a message is refused
pub record Refuses (old : Shelf) (cause : Option AbortCause) (closes : Option ℕ) (came : Prepared) (answer : Posted) (new : Shelf) : Type 0 where
  pub closed : Shelf
  pub answered : Shelf
  pub closing : ClosesOne old closes closed
  pub answering : Answers closed closes (abort_for (length old.outbox.aborts) cause (arrival_of came).ids.orig) answer answered
  pub new_is : new ≡ record answered { log = logged answered.log (posted_line came answer) }

-- nothing is done with a message
pub record Discards (old : Shelf) (came : Prepared) (answer : Posted) (new : Shelf) : Type 0 where
  pub answer_is : answer ≡ Discarded
  pub new_is : new ≡ record old { log = logged old.log (posted_line came answer) }

-- what is done with a message
abbrev pub Follows : Verdict → Shelf → Prepared → Posted → Shelf → Type 0
Follows Discard old came answer new = Discards old came answer new
Follows (Refuse cause closes) old came answer new = Refuses old cause closes came answer new
Follows (Open peer) old came answer new = OpensDialogue old peer came answer new
Follows (Extend local false) old came answer new = ExtendsDialogue old local came answer new
Follows (Extend local true) old came answer new = EndsDialogue old local came answer new

-- what is counted then, by the answer: the entries of a message that was accepted
abbrev pub posted_totals : Totals → Prepared → Posted → Totals
posted_totals totals came (Opened local) = more_accepted totals (entries_in came)
posted_totals totals came (Accepted count) = more_accepted totals (entries_in came)
posted_totals totals came _ = totals

abbrev pub are_some : List Entry → Bool
are_some [] = false
are_some (entry ∷ entries) = true

-- whether memory is asked for it: for a new dialogue, and for entries, if there are any
abbrev pub asks_for_memory : Verdict → Prepared → Bool
asks_for_memory (Open peer) came = true
asks_for_memory (Extend local ends) came = are_some (entries_in came)
asks_for_memory _ came = false

-- The first matching rule applies; or, if a message would be accepted, an allocation failed, and the message is treated
-- as one that was lost.
abbrev pub Posts : Shelf → Prepared → Posted → Shelf → Type 0
Posts old came answer new =
    Follows (verdict old came) old came answer new
    ⊎ ((asks_for_memory (verdict old came) came ≡ true)
    × Follows (verdict old (prepared.Lost (arrival_of came))) old (prepared.Lost (arrival_of came)) answer new)
