-- Which dialogues of a run have a turn out, of how many entries, which are ready for one, and for how long.
use Rattle.std.specs.Prelude.{◌≡◌, ℕ, ◌<◌, ◌&&◌, Bool, not, List, [], ◌∷◌, Option, Some, None, drop, length, take, nat_lt, suc, ◌⊎◌, if◌then◌else◌}
use Rattle.fp_book.specs.Calls.{ComesFirst}
use Rattle.fp_entry.specs.declared.entry.Entry.{Entry}
use Rattle.fp_row.specs.Row.{is_closed}
use Rattle.fp_service.specs.Dialogue.{is_over, next_due}
use Rattle.fp_service.specs.Fold.{cut}
use Rattle.fp_steps.specs.declared.output.Output.{Output}
use Rattle.fp_steps.specs.declared.output.Output.TheVariants as outputs
use Rattle.fp_steps.specs.declared.step.Step.{Step}
use Rattle.fp_steps.specs.declared.step.Step.TheVariants as steps
use Rattle.fp_steps.specs.Accepted.{accepted, core_of, ending, positions}
use Rattle.fp_steps.specs.Births.{is_one, local_of, named}
use Rattle.fp_steps.specs.History.{Event}

-- how many entries of a dialogue are out after an event: as many as the answer to a Take that names it says, and none
-- after a turn of it was given or put back
abbrev pub count_after : Output → Step → List Event → ℕ → ℕ → ℕ
count_after (outputs.Took local position count) step h d before = if is_one (named h local) d then count else before
count_after (outputs.Gave local position served given) step h d before = if is_one (named h local) d then 0 else before
count_after outputs.WentBack (steps.PutBack local) h d before = if is_one (named h local) d then 0 else before
count_after _ step h d before = before

-- how many entries of a dialogue are out as a turn: those of the one that was taken, and since then neither given nor
-- put back
abbrev pub count_out : List Event → ℕ → ℕ
count_out [] d = 0
count_out (e ∷ h) d = count_after e.output e.step h d (count_out h d)

-- whether a turn of a dialogue is out
abbrev pub turn_out : List Event → ℕ → Bool
turn_out h d = nat_lt 0 (count_out h d)

-- the local transaction identifier of a dialogue, if a turn of it is out
abbrev pub local_if_out : List Event → ℕ → Option ℕ
local_if_out h d = if turn_out h d then Some (local_of h d) else None

-- the entries of a dialogue that weren't served
abbrev pub unserved : List Event → ℕ → List Entry
unserved h d = drop (length (positions h d)) (accepted h d)

-- those of them that are out
abbrev pub entries_out : List Event → ℕ → List Entry
entries_out h d = take (count_out h d) (unserved h d)

-- those of these that are served if the turn is: up to the first after which the core is over, or all
abbrev pub next_served : List Event → ℕ → List Entry
next_served h d = cut (core_of h d) (entries_out h d)

-- whether an entry is still to be served: none is, once the dialogue was closed or its core is over
abbrev pub waits : List Event → ℕ → Bool
waits h d = not (is_closed (ending h d)) && (not (is_over (core_of h d)) && nat_lt (length (positions h d)) (length (accepted h d)))

-- whether a dialogue is ready: an entry waits, and no turn of it is out
abbrev pub is_ready : List Event → ℕ → Bool
is_ready h d = not (turn_out h d) && waits h d

-- through how many of the newest events it has been so, without a break
abbrev pub ready_for : List Event → ℕ → ℕ
ready_for [] d = 0
ready_for (e ∷ h) d = if is_ready (e ∷ h) d then suc (ready_for h d) else 0

-- what is due next of a dialogue, and its local transaction identifier
abbrev pub due_of : List Event → ℕ → ℕ × ℕ
due_of h d = (next_due (core_of h d), local_of h d)

-- One dialogue has been ready longer than another; or both since the same event, which is a tick, and this one's
-- deadline was the earlier, or of equal ones its identifier the smaller. What is due next of a dialogue doesn't change
-- while it is ready.
abbrev pub IsReadyBefore : List Event → ℕ → ℕ → Type 0
IsReadyBefore h c d = (ready_for h d < ready_for h c) ⊎ ((ready_for h c ≡ ready_for h d) × ComesFirst (due_of h c) (due_of h d))
