-- A step of the service logic keeps the birth of a core: one lemma for each part of the table.
use Rattle.std.proofs.Common.{◌≡◌, ℕ, ℤ, ◌+◌, Bool, true, false, cond, Option, Some, None, List, [], ◌∷◌, length, nat_le, refl, ◌∙◌}
use Rattle.fp_apdu.specs.declared.opening.Opening.{Opening}
use Rattle.fp_apdu.specs.declared.opening.Opening.TheVariants as openings
use Rattle.fp_digits.specs.declared.cause_value.Cause.{Cause}
use Rattle.fp_entry.specs.declared.entry.Entry.{Entry}
use Rattle.fp_entry.specs.declared.entry.EntryKind.{EntryKind}
use Rattle.fp_entry.specs.declared.entry.EntryKind.TheVariants.{Opened, InitialDp, Event, UnknownInvoke, Result, Error, Reject, Faulty, PeerEnd, PeerAbort, Clock}
use Rattle.fp_entry.specs.declared.found.Found.{Found}
use Rattle.fp_entry.specs.declared.found.Found.TheVariants.{Missing, WrongKey, NoRecord, Record}
use Rattle.fp_entry.specs.Entries.{is_clock}
use Rattle.fp_inap.specs.declared.event.Event as events
use Rattle.fp_inap.specs.declared.event.Event.TheVariants.{RouteSelectFailure, OCalledPartyBusy, ONoAnswer, OAnswer, ODisconnect, OAbandon, Other}
use Rattle.fp_ism.specs.Invocations.{after_moment}
use Rattle.fp_ism.specs.Testing.{is_test_due, is_testing}
use Rattle.fp_ism.specs.declared.outcome.Outcome.{Outcome}
use Rattle.fp_ism.specs.declared.outcome.Outcome.TheVariants.{Success, Failure, Stays, Ignored, Problem}
use Rattle.fp_q773.specs.declared.operation_class.OperationClass.{OperationClass}
use Rattle.fp_records.specs.Action.{rest_of}
use Rattle.fp_records.specs.declared.action.Action.{Action}
use Rattle.fp_records.specs.declared.action.Action.TheVariants.{Route, Refuse, Pass}
use Rattle.fp_records.specs.declared.action.Destinations.{Destinations}
use Rattle.fp_records.specs.declared.rule.Rule.{Rule}
use Rattle.fp_service.specs.declared.dialogue.Core.{Core}
use Rattle.fp_service.specs.declared.instruction.Instruction.{Instruction}
use Rattle.fp_service.specs.declared.instruction.Instruction.TheVariants.{ActivityTest}
use Rattle.fp_service.specs.declared.request.Request.{Request}
use Rattle.fp_service.specs.declared.state.Stage.{Stage}
use Rattle.fp_service.specs.declared.state.Stage.TheVariants.{Fresh, Waiting}
use Rattle.fp_service.specs.declared.state.State.{State}
use Rattle.fp_service.specs.declared.state.State.TheVariants.{Live, Over}
use Rattle.fp_service.specs.Answer.{no_request, continue_with, end_with, abort_with, user_abort, reject, instruct, conclude}
use Rattle.fp_service.specs.Attempt.{try_next, on_failure}
use Rattle.fp_service.specs.Clock.{on_clock, on_silence}
use Rattle.fp_service.specs.Dialogue.{quiet_until, test_moment, touched}
use Rattle.fp_service.specs.Event.{on_event, on_report, goes_on}
use Rattle.fp_service.specs.Fold.{core_after}
use Rattle.fp_service.specs.InitialDp.{by_action, by_destinations, by_rule, on_call, on_initial_dp}
use Rattle.fp_service.specs.Laws.{BirthsStay}
use Rattle.fp_service.specs.Outcome.{by_outcome, is_of_test, on_outcome, on_reject}
use Rattle.fp_service.specs.Serve.{by_opening, in_state, next, on_kind, on_opening, reject_linked, serve}

-- the core after a step has this birth
abbrev Bears : ℕ → Core × Option Request → Type 0
Bears birth served = served.0.birth ≡ birth

-- either of two
bears_either : (test : Bool) (birth : ℕ) (x y : Core × Option Request) → Bears birth x → Bears birth y → Bears birth (cond test x y)
bears_either true birth x y first second = first
bears_either false birth x y first second = second

-- the messages

user_abort-birth : (core : Core) → Bears core.birth (user_abort core)
unfolding user_abort abort_with
user_abort-birth core = refl

instruct-birth : (core : Core) (moment : ℕ) (instructions : List Instruction) → Bears core.birth (instruct core moment instructions)
unfolding instruct continue_with user_abort abort_with
instruct-birth core moment instructions =
    bears_either (nat_le (length core.invocations.active + length instructions) 8) core.birth _ _ refl refl

-- the destinations

try_next-birth : (core : Core) (moment : ℕ) (left : Option Destinations) (cause : Cause) → Bears core.birth (try_next core moment left cause)
unfolding try_next conclude end_with
try_next-birth core moment None cause = refl
try_next-birth core moment (Some left) cause = instruct-birth _ moment _

on_failure-birth : (stage : Stage) (core : Core) (moment : ℕ) → Bears core.birth (on_failure stage core moment)
unfolding on_failure
on_failure-birth Fresh core moment = refl
on_failure-birth (Waiting left) core moment = try_next-birth core moment left _

-- the outcomes

by_outcome-birth : (stage : Stage) (core : Core) (moment : ℕ) (identifier : ℤ) (outcome : Outcome) → Bears core.birth (by_outcome stage core moment identifier outcome)
unfolding reject continue_with
by_outcome-birth stage core moment identifier (Problem problem) = refl
by_outcome-birth stage core moment identifier Failure = on_failure-birth stage core moment
by_outcome-birth stage core moment identifier Success = refl
by_outcome-birth stage core moment identifier Stays = refl
by_outcome-birth stage core moment identifier Ignored = refl

on_outcome-birth : (stage : Stage) (core : Core) (moment : ℕ) (identifier : ℤ) (outcome : Outcome) → Bears core.birth (on_outcome stage core moment identifier outcome)
unfolding on_outcome
on_outcome-birth stage core moment identifier outcome = by_outcome-birth stage _ moment identifier outcome

on_reject-birth : (stage : Stage) (core : Core) (moment : ℕ) (identifier : ℤ) (class : Option OperationClass) → Bears core.birth (on_reject stage core moment identifier class)
unfolding on_reject
on_reject-birth stage core moment identifier class =
    bears_either (is_of_test class) core.birth _ _ refl (on_outcome-birth stage core moment identifier _)

-- the events

goes_on-birth : (core : Core) (moment : ℕ) (notification : Bool) → Bears core.birth (goes_on core moment notification)
goes_on-birth core moment true = refl
goes_on-birth core moment false = instruct-birth core moment _

on_report-birth : (core : Core) (moment : ℕ) (left : Option Destinations) (reports : events.Event) (notification : Bool) → Bears core.birth (on_report core moment left reports notification)
unfolding on_report end_with
on_report-birth core moment left RouteSelectFailure notification = try_next-birth core moment left _
on_report-birth core moment left OCalledPartyBusy notification = try_next-birth core moment left _
on_report-birth core moment left ONoAnswer notification = try_next-birth core moment left _
on_report-birth core moment left OAnswer notification = refl
on_report-birth core moment left OAbandon notification = refl
on_report-birth core moment left ODisconnect notification = goes_on-birth core moment notification
on_report-birth core moment left (Other code) notification = goes_on-birth core moment notification

on_event-birth : (stage : Stage) (core : Core) (moment : ℕ) (reports : events.Event) (notification : Bool) → Bears core.birth (on_event stage core moment reports notification)
unfolding on_event
on_event-birth Fresh core moment reports notification = refl
on_event-birth (Waiting left) core moment reports notification = on_report-birth core moment left reports notification

-- the call

by_destinations-birth : (core : Core) (moment : ℕ) (destinations : Destinations) (others : Option Destinations) → Bears core.birth (by_destinations core moment destinations others)
unfolding conclude end_with
by_destinations-birth core moment destinations None = refl
by_destinations-birth core moment destinations (Some others) = try_next-birth core moment (Some destinations) _

by_action-birth : (core : Core) (moment : ℕ) (action : Action) → Bears core.birth (by_action core moment action)
unfolding by_action conclude end_with
by_action-birth core moment Refuse = refl
by_action-birth core moment Pass = refl
by_action-birth core moment (Route destinations) = by_destinations-birth core moment destinations (rest_of destinations)

by_rule-birth : (core : Core) (moment : ℕ) (rule : Option Rule) → Bears core.birth (by_rule core moment rule)
unfolding by_rule conclude end_with
by_rule-birth core moment None = refl
by_rule-birth core moment (Some rule) = by_action-birth core moment rule.action

on_call-birth : (core : Core) (moment : ℕ) (identifier : ℤ) (calling : List ℕ) (found : Found) → Bears core.birth (on_call core moment identifier calling found)
unfolding on_call end_with
on_call-birth core moment identifier calling Missing = refl
on_call-birth core moment identifier calling WrongKey = refl
on_call-birth core moment identifier calling NoRecord = refl
on_call-birth core moment identifier calling (Record rules) = by_rule-birth core moment _

on_initial_dp-birth : (stage : Stage) (core : Core) (moment : ℕ) (identifier : ℤ) (calling : List ℕ) (found : Found) → Bears core.birth (on_initial_dp stage core moment identifier calling found)
unfolding on_initial_dp continue_with
on_initial_dp-birth Fresh core moment identifier calling found = on_call-birth core moment identifier calling found
on_initial_dp-birth (Waiting left) core moment identifier calling found = refl

-- the table

by_opening-birth : (core : Core) (opening : Opening) → Bears core.birth (by_opening core opening)
unfolding abort_with
by_opening-birth core openings.None = refl
by_opening-birth core (openings.Known name) = refl
by_opening-birth core (openings.Unknown name) = refl
by_opening-birth core (openings.BadVersion name) = refl

on_opening-birth : (stage : Stage) (core : Core) (opening : Opening) → Bears core.birth (on_opening stage core opening)
unfolding on_opening
on_opening-birth Fresh core opening = by_opening-birth (record core { opening = opening }) opening
on_opening-birth (Waiting left) core opening = refl

reject_linked-birth : (core : Core) (identifier linked : ℤ) → Bears core.birth (reject_linked core identifier linked)
unfolding reject_linked reject continue_with
reject_linked-birth core identifier linked = refl

on_silence-birth : (stage : Stage) (core : Core) (moment : ℕ) → Bears core.birth (on_silence stage core moment)
unfolding on_silence
on_silence-birth Fresh core moment = refl
on_silence-birth (Waiting left) core moment =
    bears_either (is_testing core.invocations.active) core.birth (no_request core) _ refl
    (bears_either (nat_le (test_moment core) moment) core.birth _ (no_request core) (instruct-birth core moment (ActivityTest ∷ [])) refl)

on_clock-birth : (stage : Stage) (core : Core) (moment : ℕ) → Bears core.birth (on_clock stage core moment)
unfolding on_clock
on_clock-birth stage core moment =
    let left : Core = record core { invocations = after_moment moment core.invocations } in
    bears_either (is_test_due moment core.invocations.active) core.birth (user_abort left) _ (user_abort-birth left)
    (bears_either (nat_le (quiet_until core) moment) core.birth (user_abort left) (on_silence stage left moment)
    (user_abort-birth left) (on_silence-birth stage left moment))

on_kind-birth : (stage : Stage) (core : Core) (moment : ℕ) (kind : EntryKind) → Bears core.birth (on_kind stage core moment kind)
unfolding on_kind reject continue_with
on_kind-birth stage core moment PeerEnd = refl
on_kind-birth stage core moment PeerAbort = refl
on_kind-birth stage core moment (Opened opening) = on_opening-birth stage core opening
on_kind-birth stage core moment (InitialDp identifier (Some linked) calling found) = reject_linked-birth core identifier linked
on_kind-birth stage core moment (Event identifier (Some linked) reports notification) = reject_linked-birth core identifier linked
on_kind-birth stage core moment (UnknownInvoke identifier (Some linked) unknown) = reject_linked-birth core identifier linked
on_kind-birth stage core moment (UnknownInvoke identifier None unknown) = refl
on_kind-birth stage core moment (Faulty identifier fault) = refl
on_kind-birth stage core moment (Result identifier last) = on_outcome-birth stage core moment identifier _
on_kind-birth stage core moment (Error identifier) = on_outcome-birth stage core moment identifier _
on_kind-birth stage core moment (Reject None) = refl
on_kind-birth stage core moment (Reject (Some identifier)) = on_reject-birth stage core moment identifier _
on_kind-birth stage core moment (InitialDp identifier None calling found) = on_initial_dp-birth stage core moment identifier _ found
on_kind-birth stage core moment (Event identifier None reports notification) = on_event-birth stage core moment reports notification
on_kind-birth stage core moment Clock = on_clock-birth stage core moment

in_state-birth : (state : State) (core : Core) (entry : Entry) → Bears core.birth (in_state state core entry)
in_state-birth Over core entry = refl
in_state-birth (Live stage) core entry = on_kind-birth stage core entry.moment entry.kind

-- an entry's moment doesn't change the birth
touched-birth : (core : Core) (entry : Entry) → (touched core entry).birth ≡ core.birth
touched-birth core entry =
    elim (is_clock entry.kind) as (λ b. (cond b core (record core { last = entry.moment })).birth ≡ core.birth) [ true ↦ refl | false ↦ refl ]

next-birth : (core : Core) (entry : Entry) → (next core entry).birth ≡ core.birth
unfolding serve
next-birth core entry = in_state-birth core.state (touched core entry) entry ∙ touched-birth core entry

-- and along all entries
core_after-birth : (core : Core) (entries : List Entry) → (core_after core entries).birth ≡ core.birth
core_after-birth core [] = refl
core_after-birth core (entry ∷ entries) = core_after-birth (next core entry) entries ∙ next-birth core entry

pub births_stay : BirthsStay
births_stay = record { next_has_birth = next-birth; core_after_has_birth = core_after-birth }
