-- What of a run waits to be sent, and how much it holds.
use Rattle.std.specs.Prelude.{ℕ, ◌+◌, ◌==◌, ◌&&◌, ◌||◌, Bool, true, false, not, List, [], ◌∷◌, ◌++◌, Option, drop, filter, length, suc, nat_le, if◌then◌else◌}
use Rattle.std.specs.List.{list_any}
use Rattle.std.specs.Option.{option_map_or}
use Rattle.fp_steps.specs.declared.output.Output.{Output}
use Rattle.fp_steps.specs.declared.output.Output.TheVariants as outputs
use Rattle.fp_steps.specs.Accepted.{admits, is_ended}
use Rattle.fp_steps.specs.Births.{births, how_many, is_one, named, sum_to}
use Rattle.fp_steps.specs.History.{Event}
use Rattle.fp_steps.specs.Sending.{Handed, abort_out, aborts, aborts_sent, out, queued, queued_in}
use Rattle.fp_steps.specs.Turns.{count_out, turn_out, waits}

-- whether the link is down after an event, by its answer
abbrev pub down_after : Output → Bool → Bool
down_after outputs.Down before = true
down_after outputs.Unsent before = true
down_after _ before = before

-- whether the link is down: it went down, or what was out to be sent couldn't be sent
abbrev pub is_down : List Event → Bool
is_down [] = false
is_down (e ∷ h) = down_after e.output (is_down h)

-- a frame of a dialogue: the one in this place among those of it that were accepted for sending
pub record QueuedFrame : Type 0 where
  pub dialogue : ℕ
  pub place : ℕ
  pub frame : List ℕ

-- frames of a dialogue, in places one after the other from this one on
abbrev pub numbered : ℕ → ℕ → List (List ℕ) → List QueuedFrame
numbered d place [] = []
numbered d place (frame ∷ frames) = record { dialogue = d; place = place; frame = frame } ∷ numbered d (place + 1) frames

-- those that are accepted for sending by an answer, of the dialogue that it names
abbrev pub frames_by : Option ℕ → Output → List Event → List QueuedFrame
frames_by dialogue output h = option_map_or (λ d. numbered d (length (queued h d)) (queued_in output h d)) dialogue []

-- all of them after an event
abbrev pub frames_after : Output → List Event → List QueuedFrame → List QueuedFrame
frames_after (outputs.Gave local position served given) h before = before ++ frames_by (named h local) (outputs.Gave local position served given) h
frames_after _ h before = before

-- the frames that were accepted for sending, of all dialogues, in order
abbrev pub frames : List Event → List QueuedFrame
frames [] = []
frames (e ∷ h) = frames_after e.output h (frames h)

-- how many frames of a dialogue were picked after an event
abbrev pub picked_after : Output → List Event → ℕ → ℕ → ℕ
picked_after (outputs.Picked local frame) h d before = if is_one (named h local) d then suc before else before
picked_after _ h d before = before

-- how many frames of a dialogue were picked
abbrev pub picked : List Event → ℕ → ℕ
picked [] d = 0
picked (e ∷ h) d = picked_after e.output h d (picked h d)

-- whether a dialogue's frames go out: the link is up, and nothing ended it from outside
abbrev pub is_sending : List Event → ℕ → Bool
is_sending h d = not (is_down h || is_ended h d)

-- a frame waits to be sent if it wasn't picked, and its dialogue's frames go out
abbrev pub is_waiting : List Event → QueuedFrame → Bool
is_waiting h a = is_sending h a.dialogue && nat_le (picked h a.dialogue) a.place

-- the frames that wait, the oldest first
abbrev pub waiting : List Event → List QueuedFrame
waiting h = filter (is_waiting h) (frames h)

-- the Aborts of the provider that wait, the oldest first: those that weren't sent and aren't out to be sent, and none
-- where the link is down
abbrev pub aborts_waiting : List Event → List (List ℕ)
aborts_waiting h = if is_down h then [] else drop (length (aborts_sent h ++ abort_out (out h))) (aborts h)

-- whether a frame of a dialogue waits
abbrev pub has_frame : List Event → ℕ → Bool
has_frame h d = list_any (λ (a : QueuedFrame). a.dialogue == d) (waiting h)

-- whether one of it is out to be sent
abbrev pub frame_is_out : List Event → ℕ → Bool
frame_is_out h d = option_map_or (λ (handed : Handed). is_one handed.dialogue d) (out h) false

-- whether a dialogue is held: it takes messages, or a turn of it is out, or an entry or a frame of it waits, or a frame
-- of it is out to be sent
abbrev pub is_held : List Event → ℕ → Bool
is_held h d = admits h d || (turn_out h d || (waits h d || (has_frame h d || frame_is_out h d)))

-- how many dialogues are held
abbrev pub held : List Event → ℕ
held h = how_many (births h) (is_held h)

-- how many places for frames are held: by frames that wait, by one that is out to be sent, and by entries that are out
abbrev pub places : List Event → ℕ
places h =
    (length (waiting h) + option_map_or (λ (handed : Handed). if handed.local == 0 then 0 else 1) (out h) 0)
    + sum_to (births h) (count_out h)
