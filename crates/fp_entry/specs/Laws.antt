-- What holds of the entries of all messages, and of what all frames are prepared to.
use Rattle.std.specs.Prelude.{◌≡◌, ◌≤◌, ℕ, List, [], length}
use Rattle.fp_q773.specs.Value.{ComponentValue, MessageValue, unidirectional, begin, end, continuing, abort}
use Rattle.fp_records.specs.Table.{Contents}
use Rattle.fp_entry.specs.declared.entry.Entry.{Entry}
use Rattle.fp_entry.specs.Delivered.{delivered}
use Rattle.fp_entry.specs.Entries.{AreEntries, component_count}
use Rattle.fp_entry.specs.declared.prepared.Prepared.{Prepared}
use Rattle.fp_entry.specs.Incoming.{element_count}
use Rattle.fp_entry.specs.Prepared.{Answers, IsPrepared}

-- the components of a message that are read
abbrev pub components_in : MessageValue → List ComponentValue
components_in unidirectional = []
components_in (begin originating dialogue components) = components
components_in (end destination dialogue components) = components
components_in (continuing originating destination dialogue components) = components
components_in (abort destination reason) = []

-- the entries that come from components are as many as the components that are delivered
pub record AreCounted (message : MessageValue) (entries : List Entry) : Type 0 where
  pub counted : component_count entries ≡ length (delivered (components_in message))
  pub few : component_count entries ≤ element_count message

abbrev pub ComponentsAreCounted : Type 0
ComponentsAreCounted = (contents : Contents) (contexts : List (List ℕ)) (moment : ℕ) (message : MessageValue) (entries : List Entry)
    → AreEntries contents contexts moment message entries → AreCounted message entries

-- a frame that came at a moment is prepared to one thing, want of memory aside
abbrev pub PreparedIsOne : Type 0
PreparedIsOne = (contents : Contents) (contexts : List (List ℕ)) (octets : List ℕ) (moment : ℕ) (x y : Prepared)
    → IsPrepared contents contexts octets moment x → IsPrepared contents contexts octets moment y → Answers x y
