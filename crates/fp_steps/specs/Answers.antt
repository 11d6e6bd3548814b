-- What each step of a run is answered, from what its history tells before it.
use Rattle.std.specs.Prelude.{◌≡◌, ◌≤◌, ◌<◌, ℕ, ◌-◌, ◌==◌, Bool, true, false, List, [], ◌∷◌, Option, Some, None, length, min, is_some, ⊤, if◌then◌else◌}
use Rattle.std.specs.Option.{option_map_or}
use Rattle.fp_book.specs.Limits.{most_places}
use Rattle.fp_book.specs.declared.answers.Given.{Given}
use Rattle.fp_book.specs.declared.answers.Given.TheVariants.{Silent, Queued, Dropped}
use Rattle.fp_entry.specs.declared.prepared.Prepared.{Prepared}
use Rattle.fp_row.specs.Turn.{most_entries}
use Rattle.fp_service.specs.declared.request.Request.{Request}
use Rattle.fp_service.specs.Fold.{requests}
use Rattle.fp_steps.specs.declared.output.Output.{Output}
use Rattle.fp_steps.specs.declared.output.Output.TheVariants as outputs
use Rattle.fp_steps.specs.declared.step.Step.{Step}
use Rattle.fp_steps.specs.declared.step.Step.TheVariants as steps
use Rattle.fp_steps.specs.Accepted.{core_of, is_due, positions}
use Rattle.fp_steps.specs.Births.{births, how_many, local_of, named}
use Rattle.fp_steps.specs.History.{Event}
use Rattle.fp_steps.specs.Messages.{answer_to, components_in}
use Rattle.fp_steps.specs.Sending.{Handed, out}
use Rattle.fp_steps.specs.Turns.{IsReadyBefore, is_ready, next_served, turn_out, unserved}
use Rattle.fp_steps.specs.Waiting.{QueuedFrame, aborts_waiting, is_sending, places, waiting}

-- POST, LOST

-- the first rule of receipt that fits says what is answered; the components are those of a message that is accepted; a
-- message by a table that wasn't handed in doesn't come
abbrev pub posted : ℕ → List Event → Option Prepared → Output
posted base h None = outputs.Nothing
posted base h (Some came) = outputs.Posted (answer_to base h came) (components_in (answer_to base h came) came)

-- GIVE

-- the requests are accepted for sending if their dialogue's frames go out: the link is up, and nothing ended it from
-- outside
abbrev pub given_for : Bool → List Request → Given
given_for sends [] = Silent
given_for sends (request ∷ others) = if sends then Queued (length (request ∷ others)) else Dropped (length (request ∷ others))

-- the turn of this dialogue is served, if it is out
abbrev pub gave : List Event → ℕ → Option ℕ → Output
gave h local None = outputs.Nothing
gave h local (Some d) =
    if turn_out h d
    then outputs.Gave local (length (positions h d)) (length (next_served h d)) (given_for (is_sending h d) (requests (core_of h d) (next_served h d)))
    else outputs.Nothing

-- PUT BACK

-- the turn of this dialogue goes back, if it is out
abbrev pub put_back : List Event → Option ℕ → Output
put_back h dialogue = option_map_or (λ d. if turn_out h d then outputs.WentBack else outputs.Nothing) dialogue outputs.Nothing

-- SENT, UNSENT

-- this, if something is out to be sent
abbrev pub if_out : Option Handed → Output → Output
if_out out output = if is_some out then output else outputs.Nothing

-- TICK

-- each dialogue that is due is given a Clock, and memory was wanting for none
abbrev pub ticked : List Event → ℕ → Output
ticked h moment = outputs.Ticked (how_many (births h) (is_due h moment)) 0

-- TAKE

-- the dialogue that has been ready longest
pub record IsLongestReady (h : List Event) (local position count : ℕ) : Type 0 where
  pub dialogue : ℕ
  -- its identifier is answered, which names it
  pub name : named h local ≡ Some dialogue
  pub stands : is_ready h dialogue ≡ true
  pub longest : (other : ℕ) → is_ready h other ≡ true → (other == dialogue) ≡ false → IsReadyBefore h dialogue other
  -- its next entries, as many as wait and have a free place each, at most sixteen
  pub next : position ≡ length (positions h dialogue)
  pub count_is : count ≡ min most_entries (min (length (unserved h dialogue)) (most_places - places h))

-- that one gets a turn; or all places are held; or no dialogue is ready
abbrev pub IsTaken : List Event → Output → Type 0
IsTaken h (outputs.Took local position count) = IsLongestReady h local position count × (places h < most_places)
IsTaken h outputs.NoRoom = ((d : ℕ) × (is_ready h d ≡ true)) × (most_places ≤ places h)
IsTaken h outputs.Nothing = (d : ℕ) → is_ready h d ≡ false
IsTaken h _ = ⊥

-- PICK

-- the oldest Abort of the provider; or, where none waits, the oldest frame
abbrev pub IsNext : List Event → List (List ℕ) → List QueuedFrame → ℕ → List ℕ → Type 0
IsNext h (abort ∷ aborts) frames local octets = (local ≡ 0) × (octets ≡ abort)
IsNext h [] (first ∷ frames) local octets = (local ≡ local_of h first.dialogue) × (octets ≡ first.frame)
IsNext h [] [] local octets = ⊥

-- that one is handed out; or something is out to be sent already; or nothing waits
abbrev pub IsPicked : List Event → Output → Type 0
IsPicked h outputs.Busy = is_some (out h) ≡ true
IsPicked h (outputs.Picked local frame) = (out h ≡ None) × IsNext h (aborts_waiting h) (waiting h) local frame
IsPicked h outputs.Nothing = (out h ≡ None) × (aborts_waiting h ≡ []) × (waiting h ≡ [])
IsPicked h _ = ⊥

-- EACH STEP

abbrev pub IsAnswer : ℕ → List Event → Step → Option Prepared → Output → Type 0
IsAnswer base h (steps.Post table frame moment) came output = output ≡ posted base h came
IsAnswer base h (steps.Lost frame moment) came output = output ≡ posted base h came
IsAnswer base h (steps.Tick moment) came output = output ≡ ticked h moment
IsAnswer base h steps.Take came output = IsTaken h output
IsAnswer base h (steps.Give local) came output = output ≡ gave h local (named h local)
IsAnswer base h (steps.PutBack local) came output = output ≡ put_back h (named h local)
IsAnswer base h steps.Pick came output = IsPicked h output
IsAnswer base h steps.Sent came output = output ≡ if_out (out h) outputs.Sent
IsAnswer base h steps.Unsent came output = output ≡ if_out (out h) outputs.Unsent
IsAnswer base h steps.Down came output = output ≡ outputs.Down

-- each output of a history is the answer at its moment
abbrev pub AllAnswered : ℕ → List Event → Type 0
AllAnswered base [] = ⊤
AllAnswered base (e ∷ h) = IsAnswer base h e.step e.came e.output × AllAnswered base h
