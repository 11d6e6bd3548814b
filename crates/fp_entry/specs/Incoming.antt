-- What a readable message brings, as the layer above has it.
use Rattle.std.specs.Prelude.{◌≡◌, ℕ, List, length}
use Rattle.fp_apdu.specs.declared.opening.Opening.{Opening}
use Rattle.fp_apdu.specs.Opening.{Opens}
use Rattle.fp_q773.specs.Value.{MessageValue, unidirectional, begin, end, continuing, abort}
use Rattle.fp_records.specs.Table.{Contents}
use Rattle.fp_entry.specs.declared.incoming.Incoming.{Incoming}
use Rattle.fp_entry.specs.Entries.{AreEntries}

-- how many elements the component portion of a message holds
abbrev pub element_count : MessageValue → ℕ
element_count unidirectional = 0
element_count (begin originating dialogue components) = length components
element_count (end destination dialogue components) = length components
element_count (continuing originating destination dialogue components) = length components
element_count (abort destination reason) = 0

-- this is what a message brings at this moment
pub record IsIncoming (contents : Contents) (contexts : List (List ℕ)) (moment : ℕ) (message : MessageValue) (incoming : Incoming) : Type 0 where
  pub are_entries : AreEntries contents contexts moment message incoming.entries
  pub are_elements : incoming.elements ≡ element_count message

-- a Begin whose dialogue portion opens nothing
abbrev pub OpensNothing : List (List ℕ) → MessageValue → Type 0
OpensNothing contexts unidirectional = ⊥
OpensNothing contexts (begin originating dialogue components) = (opening : Opening) → Opens dialogue contexts opening → ⊥
OpensNothing contexts (end destination dialogue components) = ⊥
OpensNothing contexts (continuing originating destination dialogue components) = ⊥
OpensNothing contexts (abort destination reason) = ⊥
