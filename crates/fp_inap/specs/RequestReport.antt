-- The argument of RequestReportBCSMEvent, after ITU-T Q.1218, as an element: a sequence that holds bcsmEvents, A0, with
-- one sequence for each event.
use Rattle.std.specs.Prelude.{ℕ, List, [], ◌∷◌}
use Rattle.fp_ber.specs.declared.element.Class.TheVariants.{Universal, Context}
use Rattle.fp_ber.specs.Tree.{Tree, Trees, primitive, constructed, none, more}
use Rattle.fp_inap.specs.declared.event.Event.{Event}
use Rattle.fp_inap.specs.declared.event.Event.TheVariants.{RouteSelectFailure, OCalledPartyBusy, ONoAnswer, OAnswer, OAbandon}
use Rattle.fp_inap.specs.Event.{code_of}

-- what a switch does at an event, monitorMode: it reports the event as a request and waits, or as a notification and
-- continues. The mode transparent, in which it reports nothing, is never requested.
pub data MonitorMode : Type 0 where
  interrupted : MonitorMode
  notify_and_continue : MonitorMode

-- the codes of the monitor modes
abbrev pub mode_code : MonitorMode → ℕ
mode_code interrupted = 0
mode_code notify_and_continue = 1

-- an event that a switch is to watch for, with its monitor mode and its leg, of the sending side
pub record BcsmEvent : Type 0 where
  pub event : Event
  pub mode : MonitorMode
  pub leg : ℕ

-- an event: eventTypeBCSM, 80, monitorMode, 81, and legID, A2, of the sending side, 80
abbrev pub bcsm_event : BcsmEvent → Tree
bcsm_event event = constructed Universal 16
    (more (primitive Context 0 (code_of event.event ∷ []))
    (more (primitive Context 1 (mode_code event.mode ∷ []))
    (more (constructed Context 2 (more (primitive Context 0 (event.leg ∷ [])) none))
    none)))

-- one after the other
abbrev pub bcsm_events : List BcsmEvent → Trees
bcsm_events [] = none
bcsm_events (event ∷ events) = more (bcsm_event event) (bcsm_events events)

-- the three failures of an attempt on leg 2, the answer on leg 2, and the caller's abandoning on leg 1
abbrev pub call_events : List BcsmEvent
call_events =
    (record { event = RouteSelectFailure; mode = interrupted; leg = 2 })
    ∷ (record { event = OCalledPartyBusy; mode = interrupted; leg = 2 })
    ∷ (record { event = ONoAnswer; mode = interrupted; leg = 2 })
    ∷ (record { event = OAnswer; mode = notify_and_continue; leg = 2 })
    ∷ (record { event = OAbandon; mode = notify_and_continue; leg = 1 })
    ∷ []

abbrev pub request_report : Tree
request_report = constructed Universal 16 (more (constructed Context 0 (bcsm_events call_events)) none)
