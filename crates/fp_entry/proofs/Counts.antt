-- How many of the entries of a message come from components.
use Rattle.std.proofs.Common.{◌≡◌, ℕ, ◌+◌, ◌≤◌, inl, inr, cond, Bool, true, false, List, [], ◌∷◌, length, Option, refl, ◌∙◌, ap, arith}
use Rattle.std.proofs.lemmas.List.Sums.{sum_by-append, sum_by-cons}
use Rattle.fp_ber.specs.Tree.{Tree}
use Rattle.std.specs.Prelude.{ℤ}
use Rattle.fp_q773.specs.Value.{is_faulty, CodeValue, ComponentValue, MessageValue, invoke, return_result_last, return_error, reject, return_result_not_last, faulty, unidirectional, begin, end, continuing, abort}
use Rattle.fp_records.specs.Table.{Contents}
use Rattle.fp_entry.specs.declared.entry.Entry.{Entry}
use Rattle.fp_entry.specs.declared.entry.EntryKind.{EntryKind}
use Rattle.fp_entry.specs.declared.entry.EntryKind.TheVariants as kinds
use Rattle.fp_entry.specs.Component.{IsInvokeKind, IsKind}
use Rattle.fp_entry.specs.Delivered.{delivered}
use Rattle.fp_entry.specs.Entries.{AreGiven, Delivers, component_count, is_from_component, entry_at}
use Rattle.fp_entry.specs.Incoming.{element_count}
use Rattle.fp_entry.specs.Laws.{AreCounted, ComponentsAreCounted, components_in}

-- what a component gives comes from a component
invoke_counts : (contents : Contents) (identifier : ℤ) (linked : Option ℤ) (code : CodeValue) (parameter : Option Tree) (kind : EntryKind)
    → IsInvokeKind contents identifier linked code parameter kind → is_from_component kind ≡ true
invoke_counts contents identifier linked code parameter kind (inl (is, inl given)) = rw given.2 refl
invoke_counts contents identifier linked code parameter kind (inl (is, inr given)) = rw given.1 refl
invoke_counts contents identifier linked code parameter kind (inr (inl (is, inl given))) = rw given.2 refl
invoke_counts contents identifier linked code parameter kind (inr (inl (is, inr given))) = rw given.1 refl
invoke_counts contents identifier linked code parameter kind (inr (inr given)) = rw given.2 refl

kind_counts : (contents : Contents) (component : ComponentValue) (kind : EntryKind) → IsKind contents component kind → is_from_component kind ≡ true
kind_counts contents (invoke identifier linked code parameter) kind is = invoke_counts contents identifier linked code parameter kind is
kind_counts contents (return_result_last identifier result) kind is = rw is refl
kind_counts contents (return_error identifier code parameter) kind is = rw is refl
kind_counts contents (reject identifier problem) kind is = rw is refl
kind_counts contents (return_result_not_last identifier result) kind is = rw is refl
kind_counts contents (faulty identifier problem) kind is = rw is refl

-- an entry counts for one where it comes from a component, and else for none
abbrev one : Entry → ℕ
one entry = cond (is_from_component entry.kind) 1 0

-- components give as many entries that count
given_count : (contents : Contents) (moment : ℕ) (components : List ComponentValue) (entries : List Entry) → AreGiven contents moment components entries
    → component_count entries ≡ length components
given_count contents moment [] [] given = refl
given_count contents moment [] (entry ∷ entries) given = absurd given
given_count contents moment (component ∷ components) [] given = absurd given
given_count contents moment (component ∷ components) (entry ∷ entries) given =
    let step : component_count (entry ∷ entries) ≡ one entry + component_count entries = sum_by-cons one entry entries in
    let here : one entry ≡ 1 = ap (λ (b : Bool). cond {A = ℕ} b 1 0) (kind_counts contents component entry.kind given.1) in
    let others = given_count contents moment components entries given.2 in
    omega arith

-- those behind others add to them
delivers_count : (contents : Contents) (moment : ℕ) (components : List ComponentValue) (before entries : List Entry) → Delivers contents moment components before entries
    → component_count entries ≡ component_count before + length (delivered components)
delivers_count contents moment components before entries given =
    ap component_count given.2 ∙ (sum_by-append one before given.0
    ∙ ap (λ n. component_count before + n) (given_count contents moment (delivered components) given.0 given.1))

-- no more are delivered than there are
delivered_few : (components : List ComponentValue) → length (delivered components) ≤ length components
delivered_few [] = omega arith
delivered_few (component ∷ others) = fewer (is_faulty component) component others (delivered_few others) where
  fewer : (test : Bool) (component : ComponentValue) (others : List ComponentValue) → length (delivered others) ≤ length others
      → length (cond test (component ∷ []) (component ∷ delivered others)) ≤ length (component ∷ others)
  fewer true component others few = omega arith
  fewer false component others few = omega arith

counted_by : (message : MessageValue) (entries : List Entry) → component_count entries ≡ length (delivered (components_in message))
    → length (components_in message) ≡ element_count message → AreCounted message entries
counted_by message entries counted elements = record { counted = counted; few = omega (arith, delivered_few (components_in message)) }

pub are_counted : ComponentsAreCounted
are_counted contents contexts moment unidirectional entries is = counted_by unidirectional entries (ap component_count is) refl
are_counted contents contexts moment (begin originating dialogue components) entries is =
    counted_by (begin originating dialogue components) entries
    (let count = delivers_count contents moment components (entry_at moment (kinds.Opened is.0) ∷ []) entries is.2 in omega arith) refl
are_counted contents contexts moment (end destination dialogue components) entries is =
    let before = delivers_count contents moment components [] is.0 is.1 in
    let all = ap component_count is.2 ∙ sum_by-append one is.0 (entry_at moment kinds.PeerEnd ∷ []) in
    counted_by (end destination dialogue components) entries (omega arith) refl
are_counted contents contexts moment (continuing originating destination dialogue components) entries is =
    counted_by (continuing originating destination dialogue components) entries
    (let count = delivers_count contents moment components [] entries is in omega arith) refl
are_counted contents contexts moment (abort destination reason) entries is = counted_by (abort destination reason) entries (ap component_count is) refl
