-- The service step: the core of a dialogue after an entry, and the request. The lines have the order of the table, and
-- the first matching one applies.
use Rattle.std.specs.Prelude.{ℕ, ℤ, Option, Some, None, if◌then◌else◌}
use Rattle.fp_apdu.specs.declared.opening.Opening.{Opening}
use Rattle.fp_apdu.specs.declared.opening.Opening.TheVariants as openings
use Rattle.fp_entry.specs.declared.entry.Entry.{Entry}
use Rattle.fp_entry.specs.declared.entry.EntryKind.{EntryKind}
use Rattle.fp_entry.specs.declared.entry.EntryKind.TheVariants.{Opened, InitialDp, Event, UnknownInvoke, Result, Error, Reject, Faulty, PeerEnd, PeerAbort, Clock}
use Rattle.fp_ism.specs.Invocation.{class_of, is_active}
use Rattle.fp_ism.specs.Outcome.{outcome_of_result, outcome_of_error}
use Rattle.fp_q773.specs.declared.problem.InvokeProblem.TheVariants.{UnrecognizedLinkedIdentifier, LinkedResponseUnexpected}
use Rattle.fp_q773.specs.declared.problem.Problem.TheVariants as problem
use Rattle.fp_service.specs.declared.dialogue.Core.{Core}
use Rattle.fp_service.specs.declared.request.AbortPortion.TheVariants.{NoName, NoVersion}
use Rattle.fp_service.specs.declared.request.Request.{Request}
use Rattle.fp_service.specs.declared.state.Stage.{Stage}
use Rattle.fp_service.specs.declared.state.Stage.TheVariants.{Fresh, Waiting}
use Rattle.fp_service.specs.declared.state.State.{State}
use Rattle.fp_service.specs.declared.state.State.TheVariants.{Live, Over}
use Rattle.fp_service.specs.Answer.{no_request, abort_with, reject}
use Rattle.fp_service.specs.Clock.{on_clock}
use Rattle.fp_service.specs.Dialogue.{ended, touched}
use Rattle.fp_service.specs.Event.{on_event}
use Rattle.fp_service.specs.InitialDp.{calling_digits, on_initial_dp}
use Rattle.fp_service.specs.Outcome.{on_outcome, on_reject}

-- a dialogue that isn't accepted is refused
abbrev pub by_opening : Core → Opening → Core × Option Request
by_opening core openings.None = no_request core
by_opening core (openings.Known name) = no_request core
by_opening core (openings.Unknown name) = abort_with core (NoName name)
by_opening core (openings.BadVersion name) = abort_with core (NoVersion name)

-- a Begin, which doesn't come in a call that waits
unfoldable pub on_opening : Stage → Core → Opening → Core × Option Request
on_opening Fresh core opening = by_opening (record core { opening = opening }) opening
on_opening (Waiting left) core opening = no_request core

-- an Invoke with a linked identifier is rejected, since no invoked operation takes linked ones
unfoldable pub reject_linked : Core → ℤ → ℤ → Core × Option Request
reject_linked core identifier linked =
    reject core (Some identifier)
    (problem.Invoke (if is_active linked core.invocations.active then LinkedResponseUnexpected else UnrecognizedLinkedIdentifier))

-- an entry of this kind at this moment, in a dialogue that isn't over and whose call is at this stage
unfoldable pub on_kind : Stage → Core → ℕ → EntryKind → Core × Option Request
on_kind stage core moment PeerEnd = no_request (ended core)
on_kind stage core moment PeerAbort = no_request (ended core)
on_kind stage core moment (Opened opening) = on_opening stage core opening
on_kind stage core moment (InitialDp identifier (Some linked) calling found) = reject_linked core identifier linked
on_kind stage core moment (Event identifier (Some linked) reports notification) = reject_linked core identifier linked
on_kind stage core moment (UnknownInvoke identifier (Some linked) unknown) = reject_linked core identifier linked
on_kind stage core moment (UnknownInvoke identifier None unknown) = reject core (Some identifier) (problem.Invoke unknown)
on_kind stage core moment (Faulty identifier fault) = reject core identifier (problem.General fault)
on_kind stage core moment (Result identifier last) =
    on_outcome stage core moment identifier (outcome_of_result last (class_of identifier core.invocations.active))
on_kind stage core moment (Error identifier) =
    on_outcome stage core moment identifier (outcome_of_error (class_of identifier core.invocations.active))
on_kind stage core moment (Reject None) = no_request core
on_kind stage core moment (Reject (Some identifier)) =
    on_reject stage core moment identifier (class_of identifier core.invocations.active)
on_kind stage core moment (InitialDp identifier None calling found) =
    on_initial_dp stage core moment identifier (calling_digits calling) found
on_kind stage core moment (Event identifier None reports notification) = on_event stage core moment reports notification
on_kind stage core moment Clock = on_clock stage core moment

-- an entry in this state
abbrev pub in_state : State → Core → Entry → Core × Option Request
in_state Over core entry = no_request core
in_state (Live stage) core entry = on_kind stage core entry.moment entry.kind

-- the core after an entry, and the request
unfoldable pub serve : Core → Entry → Core × Option Request
serve core entry = in_state core.state (touched core entry) entry

-- the core after an entry
abbrev pub next : Core → Entry → Core
next core entry = (serve core entry).0

-- the request
abbrev pub request_of : Core → Entry → Option Request
request_of core entry = (serve core entry).1
