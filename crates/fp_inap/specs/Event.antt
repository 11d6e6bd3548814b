-- The events of the basic call state model, eventTypeBCSM, after ITU-T Q.1218, by their codes.
use Rattle.std.specs.Prelude.{◌≡◌, ℕ, ◌==◌, if◌then◌else◌}
use Rattle.fp_inap.specs.declared.event.Event.{Event}
use Rattle.fp_inap.specs.declared.event.Event.TheVariants.{RouteSelectFailure, OCalledPartyBusy, ONoAnswer, OAnswer, ODisconnect, OAbandon, Other}

-- the event with a code
abbrev pub event_of : ℕ → Event
event_of code =
    if code == 4 then RouteSelectFailure
    else if code == 5 then OCalledPartyBusy
    else if code == 6 then ONoAnswer
    else if code == 7 then OAnswer
    else if code == 9 then ODisconnect
    else if code == 10 then OAbandon
    else Other code

-- the code of an event
abbrev pub code_of : Event → ℕ
code_of RouteSelectFailure = 4
code_of OCalledPartyBusy = 5
code_of ONoAnswer = 6
code_of OAnswer = 7
code_of ODisconnect = 9
code_of OAbandon = 10
code_of (Other code) = code

-- an event that has a name has its name here: `Other` is an event whose code has none
abbrev pub IsByName : Event → Type 0
IsByName event = event_of (code_of event) ≡ event
