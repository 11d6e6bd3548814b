-- A link is reported once, for the first reason, and ends in time.
use Rattle.std.proofs.Common.{◌≡◌, ℕ, ◌+◌, ◌≤◌, All, Bool, true, false, if◌then◌else◌, nat_le, Option, None, Some, unwrap_or, List, [], ◌∷◌, ◌++◌, refl, sym, ap, subst, arith}
use Rattle.std.proofs.lemmas.Bool.{le-leb, lt-leb}
use Rattle.std.proofs.lemmas.List.Elements.{All-head, All-tail}
use Rattle.fp_linkstate.specs.declared.why.Why.{Why}
use Rattle.fp_linkstate.specs.declared.why.Why.TheVariants as why
use Rattle.fp_linkstate.specs.declared.link_end.LinkEnd.{LinkEnd}
use Rattle.fp_linkstate.specs.declared.link_end.LinkEnd.TheVariants.{Up, Draining, Lingering, Down}
use Rattle.fp_linkstate.specs.declared.link_end.LinkEvent.{LinkEvent}
use Rattle.fp_linkstate.specs.declared.link_end.LinkEvent.TheVariants as event
use Rattle.fp_linkstate.specs.declared.link_end.Action.TheVariants.{Nothing, End, Close}
use Rattle.fp_linkstate.specs.declared.link_end.Step.{Step}
use Rattle.fp_linkstate.specs.Ended.{EndsInTime, EndsOnce, FaultsEnd, HasItsTime, IsDraining, IsEnded, IsFault, LeavesTime, OneReport, after, closes, earlier, first_reason, reason_of, reported, reports, shuts}
use Rattle.fp_linkstate.specs.Ending.{deadline, step, to}

-- what holds of both steps holds of the one that a test picks
either : (b : Bool) (x y : Step) (P : Step → Type 0) → P x → P y → P (if b then x else y)
either true x y P p q = p
either false x y P p q = q

-- the reason that was noted, or else this one, is the first
first_of : (noted first : Option Why) (reason : Why) → noted ≡ first → Some (unwrap_or noted reason) ≡ earlier first (Some reason)
first_of None None reason e = refl
first_of None (Some other) reason e = cc
first_of (Some other) None reason e = cc
first_of (Some other) (Some same) reason e = e

-- an event without a reason changes none
none_first : (noted first : Option Why) → noted ≡ first → noted ≡ earlier first None
none_first noted None e = e
none_first noted (Some reason) e = e

-- nor does one after the first reason
still_first : (reason : Why) (first other : Option Why) → Some reason ≡ first → Some reason ≡ earlier first other
still_first reason None other e = cc
still_first reason (Some same) other e = e

still_reported : (rs : List Why) (first other : Option Why) → OneReport rs first → OneReport rs (earlier first other)
still_reported rs first other o = record {
  why = o.why;
  first_is = sym (still_first o.why first other (sym o.first_is));
  once = o.once;
}

-- the only report so far is of the first reason
one_report : (reason : Why) (rs : List Why) (first : Option Why) → rs ≡ [] → Some reason ≡ first → OneReport (reason ∷ rs) first
one_report reason rs first none is = record {
  why = reason;
  first_is = sym is;
  once = ap (λ (later : List Why). reason ∷ later) none;
}

-- what holds before a step holds after it
ends_step : (s : LinkEnd) (e : LinkEvent) (rs : List Why) (n : ℕ) (f : Option Why) → IsEnded s rs n f
    → IsEnded (step s e).next (reported (step s e).action ++ rs) (closes (step s e).action + n) (earlier f (reason_of e))
ends_step (Up noted) (event.CallFailed reason) rs n f h = (h.0, omega (arith, h.1), first_of noted f reason h.2)
ends_step (Up noted) (event.EndOfInput at) rs n f h = (h.0, omega (arith, h.1), first_of noted f why.PeerClosed h.2)
ends_step (Up noted) (event.Quit at) rs n f h = (h.0, omega (arith, h.1), first_of noted f why.Quit h.2)
ends_step (Up noted) (event.LoopFault reason) rs n f h = (one_report _ rs _ h.0 (first_of noted f reason h.2), omega (arith, h.1))
ends_step (Up noted) (event.RunFault reason) rs n f h = (one_report _ rs _ h.0 (first_of noted f reason h.2), omega (arith, h.1))
ends_step (Up noted) event.TooManyEntries rs n f h = (one_report _ rs _ h.0 (first_of noted f why.Entries h.2), omega (arith, h.1))
ends_step (Up noted) (event.Clock at) rs n f h = (h.0, omega (arith, h.1), none_first noted f h.2)
ends_step (Up noted) event.Quiet rs n f h = (h.0, omega (arith, h.1), none_first noted f h.2)
ends_step (Up noted) event.PeerClosed rs n f h = (h.0, omega (arith, h.1), none_first noted f h.2)
ends_step (Draining first until closed) (event.Clock at) rs n f h =
    either (nat_le until at) (to Down (End first)) (to (Draining first until closed) Nothing)
    (λ (s : Step). IsEnded s.next (reported s.action ++ rs) (closes s.action + n) (earlier f None))
    (one_report first rs _ h.0 (still_first first f None h.2), omega (arith, h.1))
    (h.0, omega (arith, h.1), still_first first f None h.2)
ends_step (Draining first until true) event.Quiet rs n f h = (one_report first rs _ h.0 (still_first first f None h.2), omega (arith, h.1))
ends_step (Draining first until false) event.Quiet rs n f h = (one_report first rs _ h.0 (still_first first f None h.2), omega (arith, h.1))
ends_step (Draining first until closed) (event.CallFailed reason) rs n f h = (h.0, omega (arith, h.1), still_first first f _ h.2)
ends_step (Draining first until closed) (event.EndOfInput at) rs n f h = (h.0, omega (arith, h.1), still_first first f _ h.2)
ends_step (Draining first until closed) (event.Quit at) rs n f h = (h.0, omega (arith, h.1), still_first first f _ h.2)
ends_step (Draining first until closed) event.PeerClosed rs n f h = (h.0, omega (arith, h.1), still_first first f _ h.2)
ends_step (Draining first until closed) (event.LoopFault reason) rs n f h = (one_report first rs _ h.0 (still_first first f _ h.2), omega (arith, h.1))
ends_step (Draining first until closed) (event.RunFault reason) rs n f h = (one_report first rs _ h.0 (still_first first f _ h.2), omega (arith, h.1))
ends_step (Draining first until closed) event.TooManyEntries rs n f h = (one_report first rs _ h.0 (still_first first f _ h.2), omega (arith, h.1))
ends_step (Lingering until) (event.Clock at) rs n f h =
    either (nat_le until at) (to Down Close) (to (Lingering until) Nothing)
    (λ (s : Step). IsEnded s.next (reported s.action ++ rs) (closes s.action + n) (earlier f None))
    (still_reported rs f None h.0, omega (arith, h.1))
    (still_reported rs f None h.0, omega (arith, h.1))
ends_step (Lingering until) (event.CallFailed reason) rs n f h = (still_reported rs f _ h.0, omega (arith, h.1))
ends_step (Lingering until) (event.EndOfInput at) rs n f h = (still_reported rs f _ h.0, omega (arith, h.1))
ends_step (Lingering until) (event.Quit at) rs n f h = (still_reported rs f _ h.0, omega (arith, h.1))
ends_step (Lingering until) (event.LoopFault reason) rs n f h = (still_reported rs f _ h.0, omega (arith, h.1))
ends_step (Lingering until) (event.RunFault reason) rs n f h = (still_reported rs f _ h.0, omega (arith, h.1))
ends_step (Lingering until) event.TooManyEntries rs n f h = (still_reported rs f _ h.0, omega (arith, h.1))
ends_step (Lingering until) event.Quiet rs n f h = (still_reported rs f _ h.0, omega (arith, h.1))
ends_step (Lingering until) event.PeerClosed rs n f h = (still_reported rs f _ h.0, omega (arith, h.1))
ends_step Down e rs n f h = (still_reported rs f _ h.0, omega (arith, h.1))

-- a link ends once
pub ends_once : EndsOnce
ends_once [] = (refl, refl, refl)
ends_once (e ∷ h) = ends_step (after h) e (reports h) (shuts h) (first_reason h) (ends_once h)

-- the first clock event at this time or later takes the link down, if it isn't
abbrev EndsBy : ℕ → LinkEnd → Type 0
EndsBy t (Up noted) = ⊥
EndsBy t (Draining first until closed) = until ≤ t
EndsBy t (Lingering until) = until ≤ t
EndsBy t Down = Unit {0}

-- no event makes that later
by_step : (t : ℕ) (s : LinkEnd) (e : LinkEvent) → EndsBy t s → EndsBy t (step s e).next
by_step t (Up noted) e h = absurd h
by_step t (Draining first until closed) (event.Clock at) h =
    either (nat_le until at) (to Down (End first)) (to (Draining first until closed) Nothing)
    (λ (s : Step). EndsBy t s.next) tt h
by_step t (Draining first until true) event.Quiet h = tt
by_step t (Draining first until false) event.Quiet h = h
by_step t (Draining first until closed) (event.CallFailed reason) h = h
by_step t (Draining first until closed) (event.EndOfInput at) h = omega (arith, h)
by_step t (Draining first until closed) (event.Quit at) h = omega (arith, h)
by_step t (Draining first until closed) event.PeerClosed h = h
by_step t (Draining first until closed) (event.LoopFault reason) h = tt
by_step t (Draining first until closed) (event.RunFault reason) h = tt
by_step t (Draining first until closed) event.TooManyEntries h = tt
by_step t (Lingering until) (event.Clock at) h =
    either (nat_le until at) (to Down Close) (to (Lingering until) Nothing) (λ (s : Step). EndsBy t s.next) tt h
by_step t (Lingering until) (event.CallFailed reason) h = h
by_step t (Lingering until) (event.EndOfInput at) h = tt
by_step t (Lingering until) (event.Quit at) h = omega (arith, h)
by_step t (Lingering until) (event.LoopFault reason) h = tt
by_step t (Lingering until) (event.RunFault reason) h = tt
by_step t (Lingering until) event.TooManyEntries h = tt
by_step t (Lingering until) event.Quiet h = h
by_step t (Lingering until) event.PeerClosed h = tt
by_step t Down e h = tt

by_later : (t : ℕ) (later h : List LinkEvent) → EndsBy t (after h) → EndsBy t (after (later ++ h))
by_later t [] h by = by
by_later t (e ∷ later) h by = by_step t (after (later ++ h)) e (by_later t later h by)

-- the command and the end of the input begin it
quit_by : (at : ℕ) (s : LinkEnd) → EndsBy (deadline at) (step s (event.Quit at)).next
quit_by at (Up noted) = omega arith
quit_by at (Draining first until closed) = omega arith
quit_by at (Lingering until) = omega arith
quit_by at Down = tt

input_by : (at : ℕ) (s : LinkEnd) → EndsBy (deadline at) (step s (event.EndOfInput at)).next
input_by at (Up noted) = omega arith
input_by at (Draining first until closed) = omega arith
input_by at (Lingering until) = tt
input_by at Down = tt

-- a clock event at that time or later takes the link down
down_at : (t now : ℕ) (s : LinkEnd) → t ≤ now → EndsBy t s → (step s (event.Clock now)).next ≡ Down
down_at t now (Up noted) late h = absurd h
down_at t now (Draining first until closed) late h = rw (le-leb until now (omega (arith, late, h))) refl
down_at t now (Lingering until) late h = rw (le-leb until now (omega (arith, late, h))) refl
down_at t now Down late h = refl

-- so a link ends in time
pub ends_in_time : EndsInTime
ends_in_time at now before later late = (
  down_at (deadline at) now _ late (by_later (deadline at) later _ (quit_by at (after before))),
  down_at (deadline at) now _ late (by_later (deadline at) later _ (input_by at (after before))),
)

-- a fault takes a link down
fault_downs : (s : LinkEnd) (fault : LinkEvent) → IsFault fault → (step s fault).next ≡ Down
fault_downs (Up noted) (event.LoopFault reason) is = refl
fault_downs (Up noted) (event.RunFault reason) is = refl
fault_downs (Up noted) event.TooManyEntries is = refl
fault_downs (Draining first until closed) (event.LoopFault reason) is = refl
fault_downs (Draining first until closed) (event.RunFault reason) is = refl
fault_downs (Draining first until closed) event.TooManyEntries is = refl
fault_downs (Lingering until) (event.LoopFault reason) is = refl
fault_downs (Lingering until) (event.RunFault reason) is = refl
fault_downs (Lingering until) event.TooManyEntries is = refl
fault_downs Down fault is = refl
fault_downs s (event.CallFailed reason) is = absurd is
fault_downs s (event.EndOfInput at) is = absurd is
fault_downs s (event.Quit at) is = absurd is
fault_downs s (event.Clock at) is = absurd is
fault_downs s event.Quiet is = absurd is
fault_downs s event.PeerClosed is = absurd is

pub faults_end : FaultsEnd
faults_end fault before [] is = fault_downs (after before) fault is
faults_end fault before (e ∷ later) is = ap (λ (s : LinkEnd). (step s e).next) (faults_end fault before later is)

-- the link drains until this time
abbrev DrainsUntil : ℕ → LinkEnd → Type 0
DrainsUntil t (Draining first until closed) = until ≡ t
DrainsUntil t state = ⊥

goes_on : (t : ℕ) (s : LinkEnd) (e : LinkEvent) → LeavesTime t e → DrainsUntil t s → DrainsUntil t (step s e).next
goes_on t (Draining first until closed) (event.CallFailed reason) leaves is = is
goes_on t (Draining first until closed) (event.EndOfInput at) leaves is = omega (arith, leaves, is)
goes_on t (Draining first until closed) (event.Quit at) leaves is = omega (arith, leaves, is)
goes_on t (Draining first until closed) event.PeerClosed leaves is = is
goes_on t (Draining first until closed) (event.Clock at) leaves is = rw (lt-leb until at (omega (arith, leaves, is))) is
goes_on t (Draining first until closed) event.Quiet leaves is = absurd leaves
goes_on t (Draining first until closed) (event.LoopFault reason) leaves is = absurd leaves
goes_on t (Draining first until closed) (event.RunFault reason) leaves is = absurd leaves
goes_on t (Draining first until closed) event.TooManyEntries leaves is = absurd leaves
goes_on t (Up noted) e leaves is = absurd is
goes_on t (Lingering until) e leaves is = absurd is
goes_on t Down e leaves is = absurd is

go_on : (t : ℕ) (later h : List LinkEvent) → All (LeavesTime t) later → DrainsUntil t (after h) → DrainsUntil t (after (later ++ h))
go_on t [] h leave is = is
go_on t (e ∷ later) h leave is = goes_on t (after (later ++ h)) e (All-head (LeavesTime t) e later leave)
    (go_on t later h (All-tail (LeavesTime t) e later leave) is)

drains : (t : ℕ) (s : LinkEnd) → DrainsUntil t s → IsDraining s
drains t (Draining first until closed) is = tt
drains t (Up noted) is = absurd is
drains t (Lingering until) is = absurd is
drains t Down is = absurd is

pub has_its_time : HasItsTime
has_its_time at before later noted up leave = (
  drains (deadline at) _ (go_on (deadline at) later _ leave (subst (λ (s : LinkEnd). DrainsUntil (deadline at) (step s (event.Quit at)).next) (sym up) refl)),
  drains (deadline at) _ (go_on (deadline at) later _ leave (subst (λ (s : LinkEnd). DrainsUntil (deadline at) (step s (event.EndOfInput at)).next) (sym up) refl)),
)
