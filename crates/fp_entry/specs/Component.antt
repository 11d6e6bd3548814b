-- The kind of entry that a component of TCAP gives (Q.773, 4.2.2), where the operations are those of INAP.
use Rattle.std.specs.Prelude.{◌≡◌, ◌≢◌, ℤ, true, false, Option, Some, None, ◌⊎◌, nat_lt, if◌then◌else◌}
use Rattle.fp_ber.specs.Tree.{Tree}
use Rattle.fp_inap.specs.declared.event_report.EventReport.{EventReport}
use Rattle.fp_inap.specs.declared.initial_dp.InitialDp.{InitialDp}
use Rattle.fp_inap.specs.declared.operation.Operation.TheVariants as operations
use Rattle.fp_inap.specs.EventReport.{IsEventReport}
use Rattle.fp_inap.specs.InitialDp.{IsInitialDp}
use Rattle.fp_inap.specs.Operation.{code_of}
use Rattle.fp_q773.specs.declared.problem.InvokeProblem.TheVariants.{UnrecognizedOperation, MistypedParameter}
use Rattle.fp_q773.specs.Value.{CodeValue, ProblemValue, ComponentValue, local, tag_of, invoke, return_result_last, return_error, reject, return_result_not_last, faulty}
use Rattle.fp_records.specs.Table.{Contents}
use Rattle.fp_entry.specs.declared.entry.EntryKind.{EntryKind}
use Rattle.fp_entry.specs.declared.entry.EntryKind.TheVariants as kinds
use Rattle.fp_entry.specs.Found.{found}

-- the parameter is there, and is an argument that says this
abbrev pub Says : {A : Type 0} → (Tree → A → Type 0) → Option Tree → A → Type 0
Says Is None value = ⊥
Says Is (Some parameter) value = Is parameter value

-- an Invoke of InitialDP: its argument is read, or the parameter is mistyped
abbrev pub IsInitialDpKind : Contents → ℤ → Option ℤ → Option Tree → EntryKind → Type 0
IsInitialDpKind contents identifier linked parameter kind =
    ((dp : InitialDp) × Says IsInitialDp parameter dp × (kind ≡ kinds.InitialDp identifier linked dp.calling (found contents dp)))
    ⊎ (((dp : InitialDp) → Says IsInitialDp parameter dp → ⊥) × (kind ≡ kinds.UnknownInvoke identifier linked MistypedParameter))

-- an Invoke of EventReportBCSM, the same
abbrev pub IsEventKind : ℤ → Option ℤ → Option Tree → EntryKind → Type 0
IsEventKind identifier linked parameter kind =
    ((report : EventReport) × Says IsEventReport parameter report × (kind ≡ kinds.Event identifier linked report.event report.notification))
    ⊎ (((report : EventReport) → Says IsEventReport parameter report → ⊥) × (kind ≡ kinds.UnknownInvoke identifier linked MistypedParameter))

-- an Invoke: its operation is InitialDP, EventReportBCSM, or not recognized
abbrev pub IsInvokeKind : Contents → ℤ → Option ℤ → CodeValue → Option Tree → EntryKind → Type 0
IsInvokeKind contents identifier linked code parameter kind =
    ((code ≡ local (code_of operations.InitialDp)) × IsInitialDpKind contents identifier linked parameter kind)
    ⊎ ((code ≡ local (code_of operations.EventReportBcsm)) × IsEventKind identifier linked parameter kind)
    ⊎ ((code ≢ local (code_of operations.InitialDp)) × (code ≢ local (code_of operations.EventReportBcsm))
    × (kind ≡ kinds.UnknownInvoke identifier linked UnrecognizedOperation))

-- The identifier of a Reject, where its problem is a General one, tag 80, or one of an Invoke, 81. A problem of a
-- result or an error is about a component of this side, and its identifier is one of the peer's.
abbrev pub rejected_identifier : ProblemValue → Option ℤ → Option ℤ
rejected_identifier problem identifier = if nat_lt (tag_of problem) 2 then identifier else None

-- the table of components
abbrev pub IsKind : Contents → ComponentValue → EntryKind → Type 0
IsKind contents (invoke identifier linked code parameter) kind = IsInvokeKind contents identifier linked code parameter kind
IsKind contents (return_result_last identifier result) kind = kind ≡ kinds.Result identifier true
IsKind contents (return_error identifier code parameter) kind = kind ≡ kinds.Error identifier
IsKind contents (reject identifier problem) kind = kind ≡ kinds.Reject (rejected_identifier problem identifier)
IsKind contents (return_result_not_last identifier result) kind = kind ≡ kinds.Result identifier false
IsKind contents (faulty identifier problem) kind = kind ≡ kinds.Faulty identifier problem
