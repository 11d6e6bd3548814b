-- What a frame is prepared to: its arrival, and with it a message with its entries, a refusal, or neither, where memory
-- was wanting.
use Rattle.std.specs.Prelude.{◌≡◌, ◌≢◌, ℕ, List, ◌⊎◌, ⊤}
use Rattle.fp_ber.specs.declared.fault.BerFault.TheVariants as ber
use Rattle.fp_ber.specs.Faults.{FirstFault}
use Rattle.fp_ber.specs.Spelling.{Spells}
use Rattle.fp_ber.specs.Tree.{Tree, InRange}
use Rattle.fp_q773.specs.declared.fault.MessageFault.TheVariants as faults
use Rattle.fp_q773.specs.Fault.{IsFault}
use Rattle.fp_q773.specs.Grammar.{IsMessage}
use Rattle.fp_q773.specs.Value.{MessageValue}
use Rattle.fp_records.specs.Table.{Contents}
use Rattle.fp_entry.specs.declared.arrival.Arrival.{Arrival}
use Rattle.fp_entry.specs.declared.fault.Fault.{Fault}
use Rattle.fp_entry.specs.declared.fault.Fault.TheVariants.{Unreadable, UnknownMessage, Badly}
use Rattle.fp_entry.specs.declared.incoming.Incoming.{Incoming}
use Rattle.fp_entry.specs.declared.prepared.Prepared.{Prepared}
use Rattle.fp_entry.specs.declared.prepared.Prepared.TheVariants.{Message, Refused, Lost}
use Rattle.fp_entry.specs.Arrival.{IsArrival, SameArrival}
use Rattle.fp_entry.specs.Entries.{component_count}
use Rattle.fp_entry.specs.Incoming.{IsIncoming, OpensNothing}

-- the octets spell this element, and it is in range
abbrev pub IsElement : List ℕ → Tree → Type 0
IsElement octets element = Spells octets element × InRange element

-- the octets are a message, and this is what it brings
abbrev pub Brings : Contents → List (List ℕ) → List ℕ → ℕ → Incoming → Type 0
Brings contents contexts octets moment incoming =
    (element : Tree) × (message : MessageValue) × IsElement octets element × IsMessage element message
    × IsIncoming contents contexts moment message incoming

-- An element that is no known message; or one that is badly made, or a Begin whose dialogue portion opens nothing.
abbrev pub IsElementFault : List (List ℕ) → Tree → Fault → Type 0
IsElementFault contexts element (Unreadable fault) = ⊥
IsElementFault contexts element UnknownMessage = IsFault element faults.UnknownMessage
IsElementFault contexts element Badly =
    IsFault element faults.Badly ⊎ ((message : MessageValue) × IsMessage element message × OpensNothing contexts message)

-- The octets aren't readable, by their first fault; or they spell an element with such a fault.
abbrev pub IsRefused : List (List ℕ) → List ℕ → Fault → Type 0
IsRefused contexts octets (Unreadable fault) = FirstFault octets fault × (fault ≢ ber.Memory)
IsRefused contexts octets UnknownMessage =
    (element : Tree) × IsElement octets element × IsElementFault contexts element UnknownMessage
IsRefused contexts octets Badly = (element : Tree) × IsElement octets element × IsElementFault contexts element Badly

-- the frame, its moment, the index of its table and its identifiers, whatever it is prepared to
abbrev pub arrival_of : Prepared → Arrival
arrival_of (Message arrival incoming) = arrival
arrival_of (Refused arrival fault) = arrival
arrival_of (Lost arrival) = arrival

-- the octets are read as this: a message and what it brings, or a refusal; nothing is said where memory was wanting
abbrev pub IsReading : Contents → List (List ℕ) → List ℕ → ℕ → Prepared → Type 0
IsReading contents contexts octets moment (Message arrival incoming) = Brings contents contexts octets moment incoming
IsReading contents contexts octets moment (Refused arrival fault) = IsRefused contexts octets fault
IsReading contents contexts octets moment (Lost arrival) = ⊤

-- a frame of these octets, which came at this moment, is prepared to this, by the records of this table, whose index it
-- has
pub record IsPrepared (contents : Contents) (contexts : List (List ℕ)) (octets : List ℕ) (moment : ℕ) (prepared : Prepared) : Type 0 where
  pub is_arrival : IsArrival octets moment (arrival_of prepared)
  pub by_table : (arrival_of prepared).table ≡ contents.index
  pub is_reading : IsReading contents contexts octets moment prepared

-- neither a message nor a refusal, but what came, by no table: the index is 0
abbrev pub IsLost : List ℕ → ℕ → Prepared → Type 0
IsLost octets moment (Message arrival incoming) = ⊥
IsLost octets moment (Refused arrival fault) = ⊥
IsLost octets moment (Lost arrival) = IsArrival octets moment arrival × (arrival.table ≡ 0)

-- the same entries and number of elements
pub record SameIncoming (a b : Incoming) : Type 0 where
  pub entries : a.entries ≡ b.entries
  pub elements : a.elements ≡ b.elements

-- both are a message that brings the same, or a refusal for the same fault, unless one is lost for want of memory
abbrev pub SameReading : Prepared → Prepared → Type 0
SameReading (Message arrival a) (Message other b) = SameIncoming a b
SameReading (Message arrival a) (Refused other fault) = ⊥
SameReading (Message arrival a) (Lost other) = ⊤
SameReading (Refused arrival a) (Message other b) = ⊥
SameReading (Refused arrival a) (Refused other b) = a ≡ b
SameReading (Refused arrival a) (Lost other) = ⊤
SameReading (Lost arrival) other = ⊤

-- the answer is the other, the arrival in any case, and the rest unless one of them is lost for want of memory
pub record Answers (answer other : Prepared) : Type 0 where
  pub same_arrival : SameArrival (arrival_of answer) (arrival_of other)
  pub same_reading : SameReading answer other

-- how many of its entries come from components
abbrev pub components_of : Prepared → ℕ
components_of (Message arrival incoming) = component_count incoming.entries
components_of (Refused arrival fault) = 0
components_of (Lost arrival) = 0
