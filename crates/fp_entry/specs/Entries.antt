-- The entries of a message, which of them come from components, and which take a place of their dialogue.
use Rattle.std.specs.Prelude.{◌≡◌, ℕ, Bool, true, false, List, [], ◌∷◌, ◌++◌, count_by, ⊤}
use Rattle.fp_apdu.specs.declared.opening.Opening.{Opening}
use Rattle.fp_apdu.specs.Opening.{Opens}
use Rattle.fp_q773.specs.Value.{ComponentValue, MessageValue, unidirectional, begin, end, continuing, abort}
use Rattle.fp_records.specs.Table.{Contents}
use Rattle.fp_entry.specs.declared.entry.Entry.{Entry}
use Rattle.fp_entry.specs.declared.entry.EntryKind.{EntryKind}
use Rattle.fp_entry.specs.declared.entry.EntryKind.TheVariants.{Opened, InitialDp, Event, UnknownInvoke, Result, Error, Reject, Faulty, PeerEnd, PeerAbort, Clock}
use Rattle.fp_entry.specs.Component.{IsKind}
use Rattle.fp_entry.specs.Delivered.{delivered}

-- an entry of this kind that came at this moment
abbrev pub entry_at : ℕ → EntryKind → Entry
entry_at moment kind = record { moment = moment; kind = kind }

-- each component gives the entry that stands in its place
abbrev pub AreGiven : Contents → ℕ → List ComponentValue → List Entry → Type 0
AreGiven contents moment [] [] = ⊤
AreGiven contents moment [] (entry ∷ entries) = ⊥
AreGiven contents moment (component ∷ components) [] = ⊥
AreGiven contents moment (component ∷ components) (entry ∷ entries) =
    (entry.moment ≡ moment) × IsKind contents component entry.kind × AreGiven contents moment components entries

-- behind the entries before stand those of the components that are delivered
abbrev pub Delivers : Contents → ℕ → List ComponentValue → List Entry → List Entry → Type 0
Delivers contents moment components before entries =
    (given : List Entry) × AreGiven contents moment (delivered components) given × (entries ≡ before ++ given)

-- By the message: a Begin has what it opens, and then those of its components; a Continue those of its components; an
-- End those of its components, and then its own; an Abort its own; and a Unidirectional none.
abbrev pub AreEntries : Contents → List (List ℕ) → ℕ → MessageValue → List Entry → Type 0
AreEntries contents contexts moment unidirectional entries = entries ≡ []
AreEntries contents contexts moment (begin originating dialogue components) entries =
    (opening : Opening) × Opens dialogue contexts opening × Delivers contents moment components (entry_at moment (Opened opening) ∷ []) entries
AreEntries contents contexts moment (end destination dialogue components) entries =
    (before : List Entry) × Delivers contents moment components [] before × (entries ≡ before ++ entry_at moment PeerEnd ∷ [])
AreEntries contents contexts moment (continuing originating destination dialogue components) entries =
    Delivers contents moment components [] entries
AreEntries contents contexts moment (abort destination reason) entries = entries ≡ entry_at moment PeerAbort ∷ []

-- whether a kind of entry comes from a component
abbrev pub is_from_component : EntryKind → Bool
is_from_component (Opened opening) = false
is_from_component (InitialDp identifier linked calling found) = true
is_from_component (Event identifier linked event notification) = true
is_from_component (UnknownInvoke identifier linked problem) = true
is_from_component (Result identifier last) = true
is_from_component (Error identifier) = true
is_from_component (Reject identifier) = true
is_from_component (Faulty identifier problem) = true
is_from_component PeerEnd = false
is_from_component PeerAbort = false
is_from_component Clock = false

-- how many entries come from components
abbrev pub component_count : List Entry → ℕ
component_count = count_by (λ entry. is_from_component entry.kind)

-- whether an entry is the clock's
abbrev pub is_clock : EntryKind → Bool
is_clock (Opened opening) = false
is_clock (InitialDp identifier linked calling found) = false
is_clock (Event identifier linked event notification) = false
is_clock (UnknownInvoke identifier linked problem) = false
is_clock (Result identifier last) = false
is_clock (Error identifier) = false
is_clock (Reject identifier) = false
is_clock (Faulty identifier problem) = false
is_clock PeerEnd = false
is_clock PeerAbort = false
is_clock Clock = true

-- whether an entry takes one of the places that a dialogue has: each does but the peer's end, its abort and the clock
abbrev pub takes_a_place : EntryKind → Bool
takes_a_place (Opened opening) = true
takes_a_place (InitialDp identifier linked calling found) = true
takes_a_place (Event identifier linked event notification) = true
takes_a_place (UnknownInvoke identifier linked problem) = true
takes_a_place (Result identifier last) = true
takes_a_place (Error identifier) = true
takes_a_place (Reject identifier) = true
takes_a_place (Faulty identifier problem) = true
takes_a_place PeerEnd = false
takes_a_place PeerAbort = false
takes_a_place Clock = false

-- how many entries take a place
abbrev pub place_count : List Entry → ℕ
place_count = count_by (λ entry. takes_a_place entry.kind)
