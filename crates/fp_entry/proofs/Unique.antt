-- A component gives one kind of entry, and a message one list of entries.
use Rattle.std.proofs.Common.{◌≡◌, ℕ, ℤ, inl, inr, List, [], ◌∷◌, ◌++◌, Option, Some, None, refl, sym, ◌∙◌, ap, subst}
use Rattle.fp_ber.specs.Tree.{Tree}
use Rattle.fp_apdu.specs.declared.opening.Opening.{Opening}
use Rattle.fp_inap.specs.declared.event_report.EventReport.{EventReport}
use Rattle.fp_inap.specs.declared.initial_dp.InitialDp.{InitialDp}
use Rattle.fp_inap.specs.declared.operation.Operation.TheVariants as operations
use Rattle.fp_inap.specs.EventReport.{IsEventReport}
use Rattle.fp_inap.specs.InitialDp.{IsInitialDp}
use Rattle.fp_inap.specs.Operation.{code_of}
use Rattle.fp_q773.specs.Value.{CodeValue, ComponentValue, MessageValue, local, invoke, return_result_last, return_error, reject, return_result_not_last, faulty, unidirectional, begin, end, continuing, abort}
use Rattle.fp_records.specs.Table.{Contents}
use Rattle.fp_entry.specs.declared.entry.Entry.{Entry}
use Rattle.fp_entry.specs.declared.entry.EntryKind.{EntryKind}
use Rattle.fp_entry.specs.declared.entry.EntryKind.TheVariants as kinds
use Rattle.fp_entry.specs.Component.{Says, IsInitialDpKind, IsEventKind, IsInvokeKind, IsKind}
use Rattle.fp_entry.specs.Delivered.{delivered}
use Rattle.fp_entry.specs.Entries.{AreGiven, Delivers, AreEntries, entry_at}
use Rattle.fp_entry.specs.Found.{found}
use Rattle.fp_entry.proofs.LowerLaws.{LowerLaws}

-- a parameter says one thing
says_initial_dp_same : (laws : LowerLaws) (parameter : Option Tree) (x y : InitialDp) → Says IsInitialDp parameter x → Says IsInitialDp parameter y → x ≡ y
says_initial_dp_same laws None x y g h = absurd g
says_initial_dp_same laws (Some t) x y g h = laws.initial_dps_are_one t x y g h

says_event_report_same : (laws : LowerLaws) (parameter : Option Tree) (x y : EventReport) → Says IsEventReport parameter x → Says IsEventReport parameter y → x ≡ y
says_event_report_same laws None x y g h = absurd g
says_event_report_same laws (Some t) x y g h = laws.event_reports_are_one t x y g h

initial_dp_kind_same : (laws : LowerLaws) (contents : Contents) (identifier : ℤ) (linked : Option ℤ) (parameter : Option Tree) (x y : EntryKind)
    → IsInitialDpKind contents identifier linked parameter x → IsInitialDpKind contents identifier linked parameter y → x ≡ y
initial_dp_kind_same laws contents identifier linked parameter x y (inl g) (inl h) =
    let same = says_initial_dp_same laws parameter g.0 h.0 g.1 h.1 in
    g.2 ∙ (ap (λ (dp : InitialDp). kinds.InitialDp identifier linked dp.calling (found contents dp)) same ∙ sym h.2)
initial_dp_kind_same laws contents identifier linked parameter x y (inl g) (inr h) = absurd (h.0 g.0 g.1)
initial_dp_kind_same laws contents identifier linked parameter x y (inr g) (inl h) = absurd (g.0 h.0 h.1)
initial_dp_kind_same laws contents identifier linked parameter x y (inr g) (inr h) = g.1 ∙ sym h.1

event_kind_same : (laws : LowerLaws) (identifier : ℤ) (linked : Option ℤ) (parameter : Option Tree) (x y : EntryKind)
    → IsEventKind identifier linked parameter x → IsEventKind identifier linked parameter y → x ≡ y
event_kind_same laws identifier linked parameter x y (inl g) (inl h) =
    let same = says_event_report_same laws parameter g.0 h.0 g.1 h.1 in
    g.2 ∙ (ap (λ (report : EventReport). kinds.Event identifier linked report.event report.notification) same ∙ sym h.2)
event_kind_same laws identifier linked parameter x y (inl g) (inr h) = absurd (h.0 g.0 g.1)
event_kind_same laws identifier linked parameter x y (inr g) (inl h) = absurd (g.0 h.0 h.1)
event_kind_same laws identifier linked parameter x y (inr g) (inr h) = g.1 ∙ sym h.1

-- a code is that of one operation
operations_differ : (code : CodeValue) → code ≡ local (code_of operations.InitialDp) → code ≡ local (code_of operations.EventReportBcsm) → ⊥
operations_differ code initial_dp event = cc (initial_dp, event)

invoke_kind_same : (laws : LowerLaws) (contents : Contents) (identifier : ℤ) (linked : Option ℤ) (code : CodeValue) (parameter : Option Tree) (x y : EntryKind)
    → IsInvokeKind contents identifier linked code parameter x → IsInvokeKind contents identifier linked code parameter y → x ≡ y
invoke_kind_same laws contents identifier linked code parameter x y (inl g) (inl h) = initial_dp_kind_same laws contents identifier linked parameter x y g.1 h.1
invoke_kind_same laws contents identifier linked code parameter x y (inl g) (inr (inl h)) = absurd (operations_differ code g.0 h.0)
invoke_kind_same laws contents identifier linked code parameter x y (inl g) (inr (inr h)) = absurd (h.0 g.0)
invoke_kind_same laws contents identifier linked code parameter x y (inr (inl g)) (inl h) = absurd (operations_differ code h.0 g.0)
invoke_kind_same laws contents identifier linked code parameter x y (inr (inl g)) (inr (inl h)) = event_kind_same laws identifier linked parameter x y g.1 h.1
invoke_kind_same laws contents identifier linked code parameter x y (inr (inl g)) (inr (inr h)) = absurd (h.1 g.0)
invoke_kind_same laws contents identifier linked code parameter x y (inr (inr g)) (inl h) = absurd (g.0 h.0)
invoke_kind_same laws contents identifier linked code parameter x y (inr (inr g)) (inr (inl h)) = absurd (g.1 h.0)
invoke_kind_same laws contents identifier linked code parameter x y (inr (inr g)) (inr (inr h)) = g.2 ∙ sym h.2

kind_same : (laws : LowerLaws) (contents : Contents) (component : ComponentValue) (x y : EntryKind) → IsKind contents component x → IsKind contents component y → x ≡ y
kind_same laws contents (invoke identifier linked code parameter) x y g h = invoke_kind_same laws contents identifier linked code parameter x y g h
kind_same laws contents (return_result_last identifier result) x y g h = g ∙ sym h
kind_same laws contents (return_error identifier code parameter) x y g h = g ∙ sym h
kind_same laws contents (reject identifier problem) x y g h = g ∙ sym h
kind_same laws contents (return_result_not_last identifier result) x y g h = g ∙ sym h
kind_same laws contents (faulty identifier problem) x y g h = g ∙ sym h

same_entry : (x y : Entry) → x.moment ≡ y.moment → x.kind ≡ y.kind → x ≡ y
same_entry x y moments kinds i = record { moment = moments i; kind = kinds i }

-- components give one list of entries
given_same : (laws : LowerLaws) (contents : Contents) (moment : ℕ) (components : List ComponentValue) (xs ys : List Entry) → AreGiven contents moment components xs → AreGiven contents moment components ys → xs ≡ ys
given_same laws contents moment [] [] [] g h = refl
given_same laws contents moment [] [] (y ∷ ys) g h = absurd h
given_same laws contents moment [] (x ∷ xs) ys g h = absurd g
given_same laws contents moment (component ∷ components) [] ys g h = absurd g
given_same laws contents moment (component ∷ components) (x ∷ xs) [] g h = absurd h
given_same laws contents moment (component ∷ components) (x ∷ xs) (y ∷ ys) g h =
    let first : x ≡ y = same_entry x y (g.0 ∙ sym h.0) (kind_same laws contents component x.kind y.kind g.1 h.1) in
    let others = given_same laws contents moment components xs ys g.2 h.2 in cc

delivers_same : (laws : LowerLaws) (contents : Contents) (moment : ℕ) (components : List ComponentValue) (before xs ys : List Entry) → Delivers contents moment components before xs → Delivers contents moment components before ys → xs ≡ ys
delivers_same laws contents moment components before xs ys g h =
    let same = given_same laws contents moment (delivered components) g.0 h.0 g.1 h.1 in
    g.2 ∙ (ap (λ (given : List Entry). before ++ given) same ∙ sym h.2)

-- a message brings one list of entries
pub entries_same : (laws : LowerLaws) (contents : Contents) (contexts : List (List ℕ)) (moment : ℕ) (message : MessageValue) (xs ys : List Entry)
    → AreEntries contents contexts moment message xs → AreEntries contents contexts moment message ys → xs ≡ ys
entries_same laws contents contexts moment unidirectional xs ys g h = g ∙ sym h
entries_same laws contents contexts moment (begin originating dialogue components) xs ys g h =
    let same = laws.openings_are_one dialogue contexts g.0 h.0 g.1 h.1 in
    let P : Opening → Type 0 = λ opening. Delivers contents moment components (entry_at moment (kinds.Opened opening) ∷ []) xs in
    delivers_same laws contents moment components (entry_at moment (kinds.Opened h.0) ∷ []) xs ys (subst P same g.2) h.2
entries_same laws contents contexts moment (end destination dialogue components) xs ys g h =
    let same = delivers_same laws contents moment components [] g.0 h.0 g.1 h.1 in
    g.2 ∙ (ap (λ (before : List Entry). before ++ entry_at moment kinds.PeerEnd ∷ []) same ∙ sym h.2)
entries_same laws contents contexts moment (continuing originating destination dialogue components) xs ys g h =
    delivers_same laws contents moment components [] xs ys g h
entries_same laws contents contexts moment (abort destination reason) xs ys g h = g ∙ sym h
