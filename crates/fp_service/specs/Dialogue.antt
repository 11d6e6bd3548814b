-- What the service logic knows of a dialogue between two entries: its core.
use Rattle.std.specs.Prelude.{ℕ, ◌+◌, List, [], ◌∷◌, ◌++◌, Bool, true, false, not, ◌&&◌, if◌then◌else◌}
use Rattle.fp_apdu.specs.declared.opening.Opening.TheVariants as openings
use Rattle.fp_entry.specs.declared.entry.Entry.{Entry}
use Rattle.fp_entry.specs.Entries.{is_clock}
use Rattle.fp_ism.specs.Due.{dues, least}
use Rattle.fp_ism.specs.Testing.{is_testing}
use Rattle.fp_service.specs.declared.dialogue.Core.{Core}
use Rattle.fp_service.specs.declared.state.Stage.TheVariants.{Fresh, Waiting}
use Rattle.fp_service.specs.declared.state.State.{State}
use Rattle.fp_service.specs.declared.state.State.TheVariants.{Live, Over}

-- the core of a dialogue whose Begin came at this moment
abbrev pub fresh : ℕ → ℕ → Core
fresh birth moment = record {
  state = Live Fresh;
  birth = birth;
  opening = openings.None;
  accepted = false;
  invocations = record { last_started = 0; active = [] };
  last = moment;
}

abbrev pub has_ended : State → Bool
has_ended (Live stage) = false
has_ended Over = true

-- whether the dialogue has a call whose destinations are tried
abbrev pub is_waiting : State → Bool
is_waiting (Live Fresh) = false
is_waiting (Live (Waiting left)) = true
is_waiting Over = false

-- whether the dialogue is over
abbrev pub is_over : Core → Bool
is_over core = has_ended core.state

-- the dialogue is over
abbrev pub ended : Core → Core
ended core = record core { state = Over }

-- an entry sets the moment of the last one, unless it is a Clock
abbrev pub touched : Core → Entry → Core
touched core entry = if is_clock entry.kind then core else record core { last = entry.moment }

-- the time, in milliseconds without an entry of the peer, after which a dialogue is aborted
abbrev pub quiet_limit : ℕ
quiet_limit = 300000

-- the time, counted alike, after which a call that waits is tested
abbrev pub test_limit : ℕ
test_limit = 120000

-- the moment at which the peer has been quiet for too long
abbrev pub quiet_until : Core → ℕ
quiet_until core = core.last + quiet_limit

-- the moment at which it has been quiet for long enough to be tested
abbrev pub test_moment : Core → ℕ
test_moment core = core.last + test_limit

-- whether a Clock may test the dialogue: its call waits, and no test is active
abbrev pub is_testable : Core → Bool
is_testable core = is_waiting core.state && not (is_testing core.invocations.active)

-- the moment at which one tests it, if it may
abbrev pub test_moments : Core → List ℕ
test_moments core = if is_testable core then (test_moment core ∷ []) else []

-- the earliest moment at which a Clock does something: the peer has been quiet for too long, the call is tested, or an
-- invocation is due
abbrev pub next_due : Core → ℕ
next_due core = least (quiet_until core) (test_moments core ++ dues core.invocations.active)
