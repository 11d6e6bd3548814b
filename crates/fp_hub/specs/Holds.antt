-- Calls of several steps, each made in one hold of the lock: the book after one is that after its steps, each of which
-- is the book's call of its name; and the seat grows as it does in each of them.
use Rattle.std.specs.Prelude.{◌≡◌, ◌≢◌, ℕ, ◌/◌, ◌≤◌, ◌⊎◌, ⊤, Bool, true, false, List, [], ◌∷◌, ◌++◌, Some, IfErr, OnOk, Result, Ok, length, map, max, min}
use Rattle.std.specs.List.{list_any}
use Rattle.std.specs.FinMap.{get}
use Rattle.fp_book.specs.Calls.{GivesDone, NoneReady, Posts, PutsTurnBack, Sends, Serves, ServesTurn, Takes, TakesTurn, turn_of}
use Rattle.fp_book.specs.Holding.{holds_back}
use Rattle.fp_book.specs.Shelf.{Shelf}
use Rattle.fp_book.specs.declared.answers.Given.{Given}
use Rattle.fp_book.specs.declared.answers.Given.TheVariants as given
use Rattle.fp_book.specs.declared.answers.Posted.{Posted}
use Rattle.fp_book.specs.declared.answers.Posted.TheVariants as posted
use Rattle.fp_book.specs.declared.in_place.InPlace.TheVariants as in_place
use Rattle.fp_book.specs.declared.parcel.Parcel.{Parcel}
use Rattle.fp_book.specs.declared.taken.Taken.TheVariants as taken
use Rattle.fp_entry.specs.declared.prepared.Prepared.{Prepared}
use Rattle.fp_hub.specs.Chain.{Chain}
use Rattle.fp_hub.specs.Next.{Finds}
use Rattle.fp_hub.specs.Shares.{Shares, after_give, after_post, after_serve}
use Rattle.fp_hub.specs.declared.next.Next.{Next}
use Rattle.fp_hub.specs.declared.work.Stopped.{Stopped}
use Rattle.fp_hub.specs.declared.work.Stopped.TheVariants.{Enough, Nothing, NoRoom, Memory}
use Rattle.fp_hub.specs.declared.work.Work.{Work}
use Rattle.fp_hub.specs.declared.work.Work.TheVariants.{Unserved, Served}
use Rattle.fp_hub.specs.declared.work.Worked.{Worked}
use Rattle.fp_row.specs.declared.done.Done.{Done}
use Rattle.fp_row.specs.declared.turn.Turn.{Turn}

-- POST: messages of one read

-- a message, and what became of it
abbrev pub PostStep : Type 0
PostStep = Prepared × Posted

-- it wasn't held back, and was posted
abbrev pub PostsOne : Shelf → PostStep → Shelf → Type 0
PostsOne old step new = (holds_back old step.0 ≡ false) × Posts old step.0 step.1 new

abbrev pub CountsPost : Shares → PostStep → Shares → Type 0
CountsPost old step new = new ≡ after_post old step.0 step.1

-- an Abort of the provider answers it
abbrev pub is_aborted : Posted → Bool
is_aborted (posted.Aborted cause) = true
is_aborted answer = false

-- how many messages are posted in one hold
abbrev pub most_posts : ℕ
most_posts = 64

-- messages at the front of a list were posted, as many as may be at most, and counted; the others are left
pub record CountsPosts (came left : List Prepared) (before after : Shares) : Type 0 where
  pub steps : List PostStep
  pub front : came ≡ map (λ (step : PostStep). step.0) steps ++ left
  pub few : length steps ≤ most_posts
  pub grows : Chain CountsPost before steps after

-- no more were posted since none is left, since there were as many as may be, or since the next one is held back
abbrev pub StopsPosting : Shelf → ℕ → List Prepared → Type 0
StopsPosting s count [] = ⊤
StopsPosting s count (next ∷ later) = (count ≡ most_posts) ⊎ (holds_back s next ≡ true)

-- they were posted in their order
pub record PostsFront (old new : Shelf) (came left : List Prepared) (before after : Shares) (aborted : Bool) : Type 0 where
  pub counts : CountsPosts came left before after
  pub posts : Chain PostsOne old counts.steps new
  pub stops : StopsPosting new (length counts.steps) left
  pub aborted_is : aborted ≡ list_any (λ (step : PostStep). is_aborted step.1) counts.steps

-- GIVE and PUT BACK: turns that a worker has

-- what became of a turn that came back
pub data Return : Type 0 where
  -- it was given, and this became of its request
  gave : Given → Return
  -- it was put back
  went_back : Return
  -- it was stale or foreign, and was abandoned
  foreign : Return

-- a turn, and what became of it
abbrev pub ReturnStep : Type 0
ReturnStep = Work × Return

abbrev pub Returns : Shelf → Work → Return → Shelf → Type 0
Returns old (Served done) (gave given) new = GivesDone old done given new
Returns old (Served done) foreign new = (turn_of (get old.rows done.turn.local) ≢ Some done.turn) × (new ≡ old)
Returns old (Unserved turn) went_back new = PutsTurnBack old turn new
Returns old (Unserved turn) foreign new = (turn_of (get old.rows turn.local) ≢ Some turn) × (new ≡ old)
Returns old (Served done) went_back new = ⊥
Returns old (Unserved turn) (gave given) new = ⊥

abbrev pub ReturnsOne : Shelf → ReturnStep → Shelf → Type 0
ReturnsOne old step new = Returns old step.0 step.1 new

-- the seat after a turn came back: that after it was given, if it was
abbrev pub after_return : Shares → Work → Return → Shares
after_return s (Served done) (gave given) = after_give {T = Given} {E = Done} s done (Ok given)
after_return s work became = s

abbrev pub CountsReturn : Shares → ReturnStep → Shares → Type 0
CountsReturn old step new = new ≡ after_return old step.0 step.1

-- the frames of its requests wait to be sent
abbrev pub is_queued : Return → Bool
is_queued (gave (given.Queued count)) = true
is_queued became = false

-- one came back
pub record ReturnsIn (old new : Shelf) (work : Work) (before after : Shares) (queued : Bool) : Type 0 where
  pub became : Return
  pub returns : Returns old work became new
  pub grows : after ≡ after_return before work became
  pub queued_is : queued ≡ is_queued became

-- turns at the front of a list came back, at most 32, and were counted; the others are left
pub record CountsReturns (work left : List Work) (before after : Shares) : Type 0 where
  pub steps : List ReturnStep
  pub front : work ≡ map (λ (step : ReturnStep). step.0) steps ++ left
  pub few : length steps ≤ 32
  pub all : (left ≡ []) ⊎ (length steps ≡ 32)
  pub grows : Chain CountsReturn before steps after

-- they came back in their order
pub record ReturnsFront (old new : Shelf) (work left : List Work) (before after : Shares) (queued : Bool) : Type 0 where
  pub counts : CountsReturns work left before after
  pub returns : Chain ReturnsOne old counts.steps new
  pub queued_is : queued ≡ list_any (λ (step : ReturnStep). is_queued step.1) counts.steps

-- TAKE: the share of a worker

-- how many turns a worker takes at most: its share of the dialogues that are ready, at least one, and at most 32
abbrev pub share : ℕ → ℕ → ℕ → ℕ
share ready workers most = min (max (ready / max workers 1) 1) (min most 32)

-- no more were taken: there were as many as that, or the list is full; or a take hands out none
abbrev pub StopsTaking : Stopped → Shelf → ℕ → ℕ → ℕ → ℕ → Type 0
StopsTaking Enough s count limit room have = (count ≡ limit) ⊎ (room ≤ have)
StopsTaking Nothing s count limit room have = Takes s taken.Nothing s × NoneReady taken.Nothing s
StopsTaking NoRoom s count limit room have = Takes s taken.NoRoom s
StopsTaking Memory s count limit room have = Takes s taken.Memory s

-- turns were taken one after another, `limit` of them at most, and put into a list that has room for `room`
pub record TakesTurns (old new : Shelf) (had have : List Work) (limit room : ℕ) (stopped : Stopped) : Type 0 where
  pub turns : List Turn
  pub have_is : have ≡ had ++ map Unserved turns
  pub few : length turns ≤ limit
  pub takes : Chain TakesTurn old turns new
  pub stops : StopsTaking stopped new (length turns) limit room (length have)

-- GIVE and TAKE: the list of a worker

-- the turn that it is, or was
abbrev pub turn_in : Work → Turn
turn_in (Served done) = done.turn
turn_in (Unserved turn) = turn

-- turns at its front came back, and then others were taken
pub record GivesAndTakes (old new : Shelf) (work have : List Work) (before after : Shares) (workers most room : ℕ) (worked : Worked) : Type 0 where
  pub between : Shelf
  pub left : List Work
  pub returns : ReturnsFront old between work left before after worked.is_queued
  pub takes : TakesTurns between new left have (share (length between.ready) workers most) room worked.stopped
  pub ready_is : worked.ready_count ≡ length new.ready

-- what that says of the list and the seat: turns at its front came back and were counted, and others were put at its
-- end
pub record CountsWork (work have : List Work) (most : ℕ) (before after : Shares) : Type 0 where
  pub left : List Work
  pub turns : List Turn
  pub returns : CountsReturns work left before after
  pub have_is : have ≡ left ++ map Unserved turns
  pub few : length turns ≤ min most 32

-- SERVE: turns that are served in their places

-- how many entries of a turn were served, and what became of their requests
abbrev pub ServeStep : Type 0
ServeStep = ℕ × Given

abbrev pub ServesOne : Shelf → ServeStep → Shelf → Type 0
ServesOne old step new = ServesTurn old step.0 step.1 new

abbrev pub CountsServe : Shares → ServeStep → Shares → Type 0
CountsServe old step new = new ≡ after_serve old (in_place.Served step.0 step.1)

-- their requests wait to be sent
abbrev pub queues : ServeStep → Bool
queues step = is_queued (gave step.1)

-- no more were served: there were as many as that; or none is handed out
abbrev pub StopsServing : Stopped → Shelf → ℕ → ℕ → Type 0
StopsServing Enough s count limit = count ≡ limit
StopsServing Nothing s count limit = Serves s in_place.Nothing s
StopsServing NoRoom s count limit = Serves s in_place.NoRoom s
StopsServing Memory s count limit = Serves s in_place.Memory s

-- one was served
pub record ServesIn (old new : Shelf) (before after : Shares) (queued : Bool) : Type 0 where
  pub step : ServeStep
  pub serves : ServesOne old step new
  pub grows : CountsServe before step after
  pub queued_is : queued ≡ queues step

-- none was, for this reason
pub record ServesNone (stopped : Stopped) (old new : Shelf) (before after : Shares) : Type 0 where
  pub stops : (count limit : ℕ) → StopsServing stopped old count limit
  pub new_is : new ≡ old
  pub after_is : after ≡ before

-- turns were served one after another, this number of them at most, and counted
pub record ServesSome (old new : Shelf) (before after : Shares) (limit : ℕ) (queued : Bool) (stopped : Stopped) : Type 0 where
  pub steps : List ServeStep
  pub few : length steps ≤ limit
  pub serves : Chain ServesOne old steps new
  pub grows : Chain CountsServe before steps after
  pub queued_is : queued ≡ list_any queues steps
  pub stops : StopsServing stopped new (length steps) limit

-- so they were, at most 32 in one hold
pub record ServesTurns (old new : Shelf) (before after : Shares) (most : ℕ) (worked : Worked) : Type 0 where
  pub serves : ServesSome old new before after (min most 32) worked.is_queued worked.stopped
  pub ready_is : worked.ready_count ≡ length new.ready

-- SENT and PICK: the parcel that was sent, and the next one

-- the parcel that was out was sent, or a foreign one comes back; and then the sender finds this
pub record SendsAndFinds {A : Type 0} (old : Shelf) (parcel : Parcel) (sent : Result A Parcel) (next : Next) (new : Shelf) : Type 0 where
  pub between : Shelf
  pub ok : OnOk sent (Sends old parcel.content between)
  pub err : IfErr sent (λ back. (back ≡ parcel) × (between ≡ old))
  pub finds : Finds between next new
