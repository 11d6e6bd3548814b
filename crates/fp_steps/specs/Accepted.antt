-- The entries that each dialogue of a run accepts, and those of them that are served.
use Rattle.std.specs.Prelude.{ℕ, ◌+◌, ◌&&◌, not, Bool, true, false, List, [], ◌∷◌, ◌++◌, Option, Some, None, length, drop, count_by, is_some, slice_get, option_to_list, nat_le, nat_lt, suc, zero, if◌then◌else◌}
use Rattle.std.specs.List.{flat_map}
use Rattle.std.specs.Option.{option_map_or}
use Rattle.fp_book.specs.Limits.{all_entries}
use Rattle.fp_book.specs.declared.answers.Posted.{Posted}
use Rattle.fp_book.specs.declared.answers.Posted.TheVariants.{Opened, Accepted, Aborted, Ended}
use Rattle.fp_book.specs.Rules.{entries_in}
use Rattle.fp_entry.specs.declared.entry.Entry.{Entry}
use Rattle.fp_entry.specs.declared.entry.EntryKind.TheVariants.{Clock}
use Rattle.fp_entry.specs.declared.prepared.Prepared.{Prepared}
use Rattle.fp_entry.specs.Entries.{entry_at, is_clock}
use Rattle.fp_entry.specs.Prepared.{arrival_of}
use Rattle.fp_q773.specs.declared.kind.Kind.{Kind}
use Rattle.fp_q773.specs.declared.kind.Kind.TheVariants as kinds
use Rattle.fp_row.specs.declared.ending.Ending.{Ending}
use Rattle.fp_row.specs.declared.ending.Ending.TheVariants.{ByPeer, Closed}
use Rattle.fp_service.specs.declared.dialogue.Core.{Core}
use Rattle.fp_service.specs.Dialogue.{fresh, is_over, next_due}
use Rattle.fp_service.specs.Fold.{core_after}
use Rattle.fp_steps.specs.declared.output.Output.{Output}
use Rattle.fp_steps.specs.declared.output.Output.TheVariants as outputs
use Rattle.fp_steps.specs.declared.step.Step.{Step}
use Rattle.fp_steps.specs.declared.step.Step.TheVariants as steps
use Rattle.fp_steps.specs.Births.{Beginning, beginning, births, destination, for_one, is_one, named}
use Rattle.fp_steps.specs.History.{Event}

-- this many numbers, from this one on
abbrev pub numbers_from : ℕ → ℕ → List ℕ
numbers_from first zero = []
numbers_from first (suc n) = numbers_from first n ++ (first + n) ∷ []

-- the places of the entries that were served: those of a turn, from its own on
abbrev pub position_in : Output → List Event → ℕ → List ℕ
position_in (outputs.Gave local position served given) h d = for_one (named h local) d (numbers_from position served)
position_in _ h d = []

-- the places of the entries that were served, in the order in which they were
abbrev pub positions : List Event → ℕ → List ℕ
positions [] d = []
positions (e ∷ h) d = positions h d ++ position_in e.output h d

-- the peer's own end of a dialogue, or its abort
abbrev pub is_ending : Kind → Bool
is_ending kinds.End = true
is_ending kinds.Abort = true
is_ending _ = false

abbrev pub ends_peer : Option Prepared → Bool
ends_peer came = option_map_or (λ (p : Prepared). is_ending (arrival_of p).ids.kind) came false

-- what a history tells of the course of a dialogue: the entries that it accepted, in order, and how it was ended from
-- outside, if it was
pub record Course : Type 0 where
  pub accepts : List Entry
  pub ending : Option Ending

-- the entries in these places
abbrev pub in_places : List Entry → List ℕ → List Entry
in_places entries places = flat_map (λ place. option_to_list (slice_get entries place)) places

-- the core with which the service logic begins
abbrev pub start : List Event → ℕ → Core
start h d = fresh d (option_map_or (λ (b : Beginning). b.moment) (beginning h d) 0)

-- the core after what was served of these entries
abbrev pub core_on : List Event → ℕ → List Entry → Core
core_on h d entries = core_after (start h d) (in_places entries (positions h d))

-- whether the dialogue of this course takes messages: it was opened, its core isn't over, and nothing ended it from
-- outside
abbrev pub admits_on : List Event → ℕ → Course → Bool
admits_on h d c = (nat_lt 0 d && nat_le d (births h)) && (not (is_some c.ending) && not (is_over (core_on h d c.accepts)))

-- whether a Clock of it is unserved
abbrev pub has_clock_on : List Event → ℕ → List Entry → Bool
has_clock_on h d entries = nat_lt 0 (count_by (λ (entry : Entry). is_clock entry.kind) (drop (length (positions h d)) entries))

-- the entries of the message of an event
abbrev pub entries_came : Option Prepared → List Entry
entries_came came = option_map_or entries_in came []

-- how many entries the link accepted at an event
abbrev pub entry_count_in : Output → Option Prepared → ℕ
entry_count_in (outputs.Posted (Opened local) components) came = length (entries_came came)
entry_count_in (outputs.Posted (Accepted count) components) came = length (entries_came came)
entry_count_in (outputs.Ticked added wanting) came = added
entry_count_in _ came = 0

-- how many entries the link accepted
abbrev pub entry_count : List Event → ℕ
entry_count [] = 0
entry_count (e ∷ h) = entry_count h + entry_count_in e.output e.came

-- whether it accepts no more: it accepted 2^63
abbrev pub is_full : List Event → Bool
is_full h = nat_le all_entries (entry_count h)

-- whether the dialogue of this course is given a Clock at a moment; none is, once the link has accepted 2^63 entries
abbrev pub is_due_on : List Event → ℕ → ℕ → Course → Bool
is_due_on h moment d c =
    not (is_full h)
    && ((admits_on h d c && not (has_clock_on h d c.accepts)) && nat_le (next_due (core_on h d c.accepts)) moment)

-- how a message ends the dialogue that it names, while that takes messages: refused, it closes it; accepted, an End or
-- an Abort is its peer's end. One that is Discarded closes none: where a refusal closes a dialogue and no Abort of the
-- provider is sent, the answer is Ended; and no dialogue takes messages once the link is down.
abbrev pub ending_by : Posted → Option Prepared → Option Ending
ending_by (Accepted count) came = if ends_peer came then Some ByPeer else None
ending_by (Aborted cause) came = Some Closed
ending_by Ended came = Some Closed
ending_by _ came = None

-- a message ends the dialogue that it names only while that takes messages
abbrev pub ending_at : Option Ending → Bool → Option Ending → Option Ending
ending_at ending takes before = if is_some ending && takes then ending else before

-- how a dialogue was ended from outside, after an event: the end of the link closes all that were opened
abbrev pub ending_in : Output → Option Prepared → List Event → ℕ → Course → Option Ending
ending_in (outputs.Posted answer components) came h d c =
    ending_at (ending_by answer came) (is_one (destination h came) d && admits_on h d c) c.ending
ending_in outputs.Unsent came h d c = if nat_le d (births h) then Some Closed else c.ending
ending_in outputs.Down came h d c = if nat_le d (births h) then Some Closed else c.ending
ending_in _ came h d c = c.ending

-- the dialogue that receives the entries of a message, by its answer
abbrev pub receiver : Posted → Option Prepared → List Event → Option ℕ
receiver (Opened local) came h = Some (births h + 1)
receiver (Accepted count) came h = destination h came
receiver _ came h = None

-- what a dialogue of this course accepts at an event: the entries of a message, and a Clock, if it is due at a tick
abbrev pub accepted_in : Output → Step → Option Prepared → List Event → ℕ → Course → List Entry
accepted_in (outputs.Posted answer components) step came h d c = for_one (receiver answer came h) d (entries_came came)
accepted_in (outputs.Ticked added wanting) (steps.Tick moment) came h d c = if is_due_on h moment d c then entry_at moment Clock ∷ [] else []
accepted_in _ step came h d c = []

-- the course of a dialogue
abbrev pub course : List Event → ℕ → Course
course [] d = record { accepts = []; ending = None }
course (e ∷ h) d = record {
  accepts = (course h d).accepts ++ accepted_in e.output e.step e.came h d (course h d);
  ending = ending_in e.output e.came h d (course h d);
}

-- the entries that a dialogue accepted, in order: those of its Begin, of each message for it that was accepted, and a
-- Clock for each tick at which it was due
abbrev pub accepted : List Event → ℕ → List Entry
accepted h d = (course h d).accepts

-- how it was ended from outside, if it was: by an End or an Abort of its peer; or closed, by a message for it that was
-- refused while it took messages, or by the end of the link
abbrev pub ending : List Event → ℕ → Option Ending
ending h d = (course h d).ending

-- whether it was
abbrev pub is_ended : List Event → ℕ → Bool
is_ended h d = is_some (ending h d)

-- those that were served, in order
abbrev pub served : List Event → ℕ → List Entry
served h d = in_places (accepted h d) (positions h d)

-- the core of the service logic after those
abbrev pub core_of : List Event → ℕ → Core
core_of h d = core_on h d (accepted h d)

-- whether the dialogue takes messages
abbrev pub admits : List Event → ℕ → Bool
admits h d = admits_on h d (course h d)

-- whether it is due at a moment
abbrev pub is_due : List Event → ℕ → ℕ → Bool
is_due h moment d = is_due_on h moment d (course h d)
