-- The end of a link, as a state machine: the table of its steps. Times are milliseconds of one clock.
use Rattle.std.specs.Prelude.{ℕ, ◌+◌, ◌^◌, ◌-◌, Bool, true, false, if◌then◌else◌, nat_le, min, None, Some, unwrap_or}
use Rattle.std.specs.declared.option.Option.{Option}
use Rattle.fp_linkstate.specs.declared.why.Why.{Why}
use Rattle.fp_linkstate.specs.declared.why.Why.TheVariants as why
use Rattle.fp_linkstate.specs.declared.link_end.LinkEnd.{LinkEnd}
use Rattle.fp_linkstate.specs.declared.link_end.LinkEnd.TheVariants.{Up, Draining, Lingering, Down}
use Rattle.fp_linkstate.specs.declared.link_end.LinkEvent.{LinkEvent}
use Rattle.fp_linkstate.specs.declared.link_end.LinkEvent.TheVariants as event
use Rattle.fp_linkstate.specs.declared.link_end.Action.{Action}
use Rattle.fp_linkstate.specs.declared.link_end.Action.TheVariants.{Nothing, EndSending, End, Close}
use Rattle.fp_linkstate.specs.declared.link_end.Step.{Step}

-- two seconds after this time
abbrev pub deadline : ℕ → ℕ
deadline at = min (at + 2000) (2 ^ 64 - 1)

-- this state, and this to be done on the way there
abbrev pub to : LinkEnd → Action → Step
to state todo = record { next = state; action = todo }

-- a link that is up
abbrev pub step_up : Option Why → LinkEvent → Step
step_up noted (event.CallFailed why) = to (Up (Some (unwrap_or noted why))) Nothing
step_up noted (event.EndOfInput at) = to (Draining (unwrap_or noted why.PeerClosed) (deadline at) true) Nothing
step_up noted (event.Quit at) = to (Draining (unwrap_or noted why.Quit) (deadline at) false) Nothing
step_up noted (event.LoopFault why) = to Down (End (unwrap_or noted why))
step_up noted (event.RunFault why) = to Down (End (unwrap_or noted why))
step_up noted event.TooManyEntries = to Down (End (unwrap_or noted why.Entries))
step_up noted (event.Clock at) = to (Up noted) Nothing
step_up noted event.Quiet = to (Up noted) Nothing
step_up noted event.PeerClosed = to (Up noted) Nothing

-- a link that drains: its first reason, until when, and whether its peer closed
abbrev pub step_draining : Why → ℕ → Bool → LinkEvent → Step
step_draining first until closed (event.CallFailed why) = to (Draining first until closed) Nothing
step_draining first until closed (event.EndOfInput at) = to (Draining first (min until (deadline at)) true) Nothing
step_draining first until closed (event.Quit at) = to (Draining first (min until (deadline at)) closed) Nothing
step_draining first until closed event.PeerClosed = to (Draining first until true) Nothing
step_draining first until closed event.Quiet =
    (if closed then to Down (End first) else to (Lingering until) (EndSending first))
step_draining first until closed (event.Clock at) =
    (if nat_le until at then to Down (End first) else to (Draining first until closed) Nothing)
step_draining first until closed (event.LoopFault why) = to Down (End first)
step_draining first until closed (event.RunFault why) = to Down (End first)
step_draining first until closed event.TooManyEntries = to Down (End first)

-- a link that lingers, until when
abbrev pub step_lingering : ℕ → LinkEvent → Step
step_lingering until (event.CallFailed why) = to (Lingering until) Nothing
step_lingering until (event.Quit at) = to (Lingering (min until (deadline at))) Nothing
step_lingering until event.Quiet = to (Lingering until) Nothing
step_lingering until (event.Clock at) = (if nat_le until at then to Down Close else to (Lingering until) Nothing)
step_lingering until (event.EndOfInput at) = to Down Close
step_lingering until event.PeerClosed = to Down Close
step_lingering until (event.LoopFault why) = to Down Close
step_lingering until (event.RunFault why) = to Down Close
step_lingering until event.TooManyEntries = to Down Close

-- the step that an event makes
abbrev pub step : LinkEnd → LinkEvent → Step
step (Up noted) e = step_up noted e
step (Draining first until closed) e = step_draining first until closed e
step (Lingering until) e = step_lingering until e
step Down e = to Down Nothing

-- how much time is left until the link is down at the latest, if its end has begun and it isn't down
abbrev pub time_left : LinkEnd → ℕ → Option ℕ
time_left (Up noted) at = None
time_left (Draining first until closed) at = Some (until - at)
time_left (Lingering until) at = Some (until - at)
time_left Down at = None
