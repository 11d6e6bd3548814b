-- What holds of a link after any events. A history is a list of events, the newest first.
use Rattle.std.specs.Prelude.{◌≡◌, ℕ, ◌+◌, ◌<◌, ◌≤◌, ⊤, List, [], ◌∷◌, ◌++◌, All, None, Some}
use Rattle.std.specs.declared.option.Option.{Option}
use Rattle.fp_linkstate.specs.declared.why.Why.{Why}
use Rattle.fp_linkstate.specs.declared.why.Why.TheVariants as why
use Rattle.fp_linkstate.specs.declared.link_end.LinkEnd.{LinkEnd}
use Rattle.fp_linkstate.specs.declared.link_end.LinkEnd.TheVariants.{Up, Draining, Lingering, Down}
use Rattle.fp_linkstate.specs.declared.link_end.LinkEvent.{LinkEvent}
use Rattle.fp_linkstate.specs.declared.link_end.LinkEvent.TheVariants as event
use Rattle.fp_linkstate.specs.declared.link_end.Action.{Action}
use Rattle.fp_linkstate.specs.declared.link_end.Action.TheVariants.{Nothing, EndSending, End, Close}
use Rattle.fp_linkstate.specs.Ending.{deadline, step}

-- the state after these events
abbrev pub after : List LinkEvent → LinkEnd
after [] = Up None
after (e ∷ h) = (step (after h) e).next

-- the reason of an event, if it has one
abbrev pub reason_of : LinkEvent → Option Why
reason_of (event.CallFailed why) = Some why
reason_of (event.EndOfInput at) = Some why.PeerClosed
reason_of (event.Quit at) = Some why.Quit
reason_of (event.LoopFault why) = Some why
reason_of (event.RunFault why) = Some why
reason_of event.TooManyEntries = Some why.Entries
reason_of (event.Clock at) = None
reason_of event.Quiet = None
reason_of event.PeerClosed = None

-- the first one, if there is one, or else the second
abbrev pub earlier : Option Why → Option Why → Option Why
earlier (Some why) later = Some why
earlier None later = later

-- the first reason that an event had
abbrev pub first_reason : List LinkEvent → Option Why
first_reason [] = None
first_reason (e ∷ h) = earlier (first_reason h) (reason_of e)

-- the reason with which the book is taken down and the end is reported, if that is to be done
abbrev pub reported : Action → List Why
reported Nothing = []
reported (EndSending why) = why ∷ []
reported (End why) = why ∷ []
reported Close = []

-- the reasons with which the book was taken down and the end was reported
abbrev pub reports : List LinkEvent → List Why
reports [] = []
reports (e ∷ h) = reported (step (after h) e).action ++ reports h

-- how many times both sides of the socket are to be shut
abbrev pub closes : Action → ℕ
closes Nothing = 0
closes (EndSending why) = 0
closes (End why) = 1
closes Close = 1

-- how many times they were shut
abbrev pub shuts : List LinkEvent → ℕ
shuts [] = 0
shuts (e ∷ h) = closes (step (after h) e).action + shuts h

-- the book was taken down once and the end was reported once, with this reason, the first one
pub record OneReport (reports : List Why) (first : Option Why) : Type 0 where
  pub why : Why
  pub first_is : first ≡ Some why
  pub once : reports ≡ why ∷ []

-- a link that is up or drains isn't down in its book and has reported nothing; one that lingers or is down was taken
-- down and reported once; and the socket is shut once the link is down
abbrev pub IsEnded : LinkEnd → List Why → ℕ → Option Why → Type 0
IsEnded (Up noted) reports shuts first = (reports ≡ []) × (shuts ≡ 0) × (noted ≡ first)
IsEnded (Draining why until closed) reports shuts first = (reports ≡ []) × (shuts ≡ 0) × (Some why ≡ first)
IsEnded (Lingering until) reports shuts first = OneReport reports first × (shuts ≡ 0)
IsEnded Down reports shuts first = OneReport reports first × (shuts ≡ 1)

-- so it is after any events
abbrev pub EndsOnce : Type 0
EndsOnce = (h : List LinkEvent) → IsEnded (after h) (reports h) (shuts h) (first_reason h)

-- the first clock event at this time or later, after the command `quit` or the end of the input, finds the link down or
-- takes it down
abbrev pub EndsInTime : Type 0
EndsInTime = (at now : ℕ) (before later : List LinkEvent) → deadline at ≤ now
    → (after (event.Clock now ∷ later ++ event.Quit at ∷ before) ≡ Down)
    × (after (event.Clock now ∷ later ++ event.EndOfInput at ∷ before) ≡ Down)

-- a fault ends a link that is up or drains, and one that lingers
abbrev pub IsFault : LinkEvent → Type 0
IsFault (event.LoopFault why) = ⊤
IsFault (event.RunFault why) = ⊤
IsFault event.TooManyEntries = ⊤
IsFault e = ⊥

-- at once: the link is down, and stays down
abbrev pub FaultsEnd : Type 0
FaultsEnd = (fault : LinkEvent) (before later : List LinkEvent) → IsFault fault → after (later ++ fault ∷ before) ≡ Down

-- an event by which a link that drains until this time goes on draining until then
abbrev pub LeavesTime : ℕ → LinkEvent → Type 0
LeavesTime until (event.CallFailed why) = ⊤
LeavesTime until (event.EndOfInput at) = until ≤ deadline at
LeavesTime until (event.Quit at) = until ≤ deadline at
LeavesTime until event.PeerClosed = ⊤
LeavesTime until (event.Clock at) = at < until
LeavesTime until e = ⊥

abbrev pub IsDraining : LinkEnd → Type 0
IsDraining (Draining why until closed) = ⊤
IsDraining state = ⊥

-- until all is sent, or a fault comes, a link that was up has two seconds after `quit` or the end of its input
abbrev pub HasItsTime : Type 0
HasItsTime = (at : ℕ) (before later : List LinkEvent) (noted : Option Why) → after before ≡ Up noted
    → All (LeavesTime (deadline at)) later
    → IsDraining (after (later ++ event.Quit at ∷ before)) × IsDraining (after (later ++ event.EndOfInput at ∷ before))
