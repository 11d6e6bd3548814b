-- What holds of all arguments.
use Rattle.std.specs.Prelude.{◌≡◌}
use Rattle.fp_ber.specs.Tree.{Tree}
use Rattle.fp_inap.specs.declared.event_report.EventReport.{EventReport}
use Rattle.fp_inap.specs.declared.initial_dp.InitialDp.{InitialDp}
use Rattle.fp_inap.specs.EventReport.{IsEventReport}
use Rattle.fp_inap.specs.InitialDp.{IsInitialDp}

-- an element is at most one argument of InitialDP
abbrev pub InitialDpsAreOne : Type 0
InitialDpsAreOne = (t : Tree) (x y : InitialDp) → IsInitialDp t x → IsInitialDp t y → x ≡ y

-- an element is at most one argument of EventReportBCSM
abbrev pub EventReportsAreOne : Type 0
EventReportsAreOne = (t : Tree) (x y : EventReport) → IsEventReport t x → IsEventReport t y → x ≡ y
