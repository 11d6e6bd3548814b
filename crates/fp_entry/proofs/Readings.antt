-- A frame is prepared to one thing, want of memory aside.
use Rattle.std.proofs.Common.{◌≡◌, ℕ, inl, inr, List, [], refl, sym, ◌∙◌, ap, subst}
use Rattle.fp_ber.specs.declared.fault.BerFault.{BerFault}
use Rattle.fp_ber.specs.Faults.{FirstFault}
use Rattle.fp_ber.specs.Tree.{Tree}
use Rattle.fp_q773.specs.Fault.{IsKnown}
use Rattle.fp_q773.specs.Grammar.{IsMessage}
use Rattle.fp_q773.specs.Value.{MessageValue, unidirectional, begin, end, continuing, abort}
use Rattle.fp_records.specs.Table.{Contents}
use Rattle.fp_entry.specs.declared.fault.Fault.{Fault}
use Rattle.fp_entry.specs.declared.fault.Fault.TheVariants.{Unreadable, UnknownMessage, Badly}
use Rattle.fp_entry.specs.declared.incoming.Incoming.{Incoming}
use Rattle.fp_entry.specs.declared.prepared.Prepared.{Prepared}
use Rattle.fp_entry.specs.declared.prepared.Prepared.TheVariants.{Message, Refused, Lost}
use Rattle.fp_entry.specs.declared.arrival.Arrival.{Arrival}
use Rattle.fp_entry.specs.Arrival.{IsArrival, SameArrival}
use Rattle.fp_entry.specs.Entries.{AreEntries}
use Rattle.fp_entry.specs.Laws.{PreparedIsOne}
use Rattle.fp_entry.specs.Incoming.{IsIncoming, OpensNothing, element_count}
use Rattle.fp_entry.specs.Prepared.{IsElement, Brings, IsElementFault, IsReading, IsRefused, SameIncoming, SameReading, arrival_of}
use Rattle.fp_entry.proofs.LowerLaws.{LowerLaws}
use Rattle.fp_entry.proofs.Unique.{entries_same}

-- octets spell one element
element_same : (laws : LowerLaws) (octets : List ℕ) (s t : Tree) → IsElement octets s → IsElement octets t → s ≡ t
element_same laws octets s t g h = (laws.none_begins_another octets octets [] [] s t g.0 h.0 refl).1

-- and those that spell one in range have no fault
no_first_fault : (laws : LowerLaws) (octets : List ℕ) (t : Tree) (fault : BerFault) → IsElement octets t → FirstFault octets fault → ⊥
no_first_fault laws octets t fault is first = laws.spelled_have_no_fault octets t fault is.0 is.1 first

-- a message has a known tag
known : (t : Tree) (value : MessageValue) → IsMessage t value → IsKnown t
known t unidirectional h = (1, h.0, h.1, inl refl)
known t (begin originating dialogue values) h = (2, h.0, h.1, inr (inl refl))
known t (end destination dialogue values) h = (4, h.0, h.1, inr (inr (inl refl)))
known t (continuing originating destination dialogue values) h = (5, h.0, h.1, inr (inr (inr (inl refl))))
known t (abort destination reason) h = (7, h.0, h.1, inr (inr (inr (inr refl))))

-- a badly made element has a known tag
known_badly : (contexts : List (List ℕ)) (t : Tree) → IsElementFault contexts t Badly → IsKnown t
known_badly contexts t (inl f) = f.0
known_badly contexts t (inr f) = known t f.0 f.1

-- what brings entries opens something
opens_something : (contents : Contents) (contexts : List (List ℕ)) (moment : ℕ) (value : MessageValue) (incoming : Incoming)
    → IsIncoming contents contexts moment value incoming → OpensNothing contexts value → ⊥
opens_something contents contexts moment unidirectional incoming is nothing = nothing
opens_something contents contexts moment (begin originating dialogue components) incoming is nothing = nothing is.are_entries.0 is.are_entries.1
opens_something contents contexts moment (end destination dialogue components) incoming is nothing = nothing
opens_something contents contexts moment (continuing originating destination dialogue components) incoming is nothing = nothing
opens_something contents contexts moment (abort destination reason) incoming is nothing = nothing

-- what brings entries is not badly made
not_badly : (laws : LowerLaws) (contents : Contents) (contexts : List (List ℕ)) (moment : ℕ) (t : Tree) (value : MessageValue) (incoming : Incoming)
    → IsMessage t value → IsIncoming contents contexts moment value incoming → IsElementFault contexts t Badly → ⊥
not_badly laws contents contexts moment t value incoming message is (inl f) = f.1 value message
not_badly laws contents contexts moment t value incoming message is (inr f) =
    opens_something contents contexts moment value incoming is (subst (OpensNothing contexts) (laws.messages_are_one t f.0 value f.1 message) f.2)

-- what brings entries is not refused
not_refused : (laws : LowerLaws) (contents : Contents) (contexts : List (List ℕ)) (octets : List ℕ) (moment : ℕ) (incoming : Incoming) (fault : Fault)
    → Brings contents contexts octets moment incoming → IsRefused contexts octets fault → ⊥
not_refused laws contents contexts octets moment incoming (Unreadable fault) g h = no_first_fault laws octets g.0 fault g.2 h.0
not_refused laws contents contexts octets moment incoming UnknownMessage g h =
    h.2 (subst IsKnown (element_same laws octets g.0 h.0 g.2 h.1) (known g.0 g.1 g.3))
not_refused laws contents contexts octets moment incoming Badly g h =
    let same = element_same laws octets h.0 g.0 h.1 g.2 in
    let P : Tree → Type 0 = λ t. IsElementFault contexts t Badly in
    not_badly laws contents contexts moment g.0 g.1 incoming g.3 g.4 (subst P same h.2)

-- octets bring one thing
brings_same : (laws : LowerLaws) (contents : Contents) (contexts : List (List ℕ)) (octets : List ℕ) (moment : ℕ) (x y : Incoming)
    → Brings contents contexts octets moment x → Brings contents contexts octets moment y → SameIncoming x y
brings_same laws contents contexts octets moment x y g h =
    let elements = element_same laws octets g.0 h.0 g.2 h.2 in
    let messages = laws.messages_are_one h.0 g.1 h.1 (subst (λ t. IsMessage t g.1) elements g.3) h.3 in
    let P : MessageValue → Type 0 = λ value. AreEntries contents contexts moment value x.entries in record {
      entries = entries_same laws contents contexts moment h.1 x.entries y.entries (subst P messages g.4.are_entries) h.4.are_entries;
      elements = g.4.are_elements ∙ (ap element_count messages ∙ sym h.4.are_elements);
    }

-- octets are refused for one fault
refused_same : (laws : LowerLaws) (contexts : List (List ℕ)) (octets : List ℕ) (f g : Fault) → IsRefused contexts octets f → IsRefused contexts octets g → f ≡ g
refused_same laws contexts octets (Unreadable f) (Unreadable g) h k = ap Unreadable (laws.faults_are_one octets f g h.0 k.0)
refused_same laws contexts octets (Unreadable f) UnknownMessage h k = absurd (no_first_fault laws octets k.0 f k.1 h.0)
refused_same laws contexts octets (Unreadable f) Badly h k = absurd (no_first_fault laws octets k.0 f k.1 h.0)
refused_same laws contexts octets UnknownMessage (Unreadable g) h k = absurd (no_first_fault laws octets h.0 g h.1 k.0)
refused_same laws contexts octets UnknownMessage UnknownMessage h k = refl
refused_same laws contexts octets UnknownMessage Badly h k =
    absurd (h.2 (subst IsKnown (element_same laws octets k.0 h.0 k.1 h.1) (known_badly contexts k.0 k.2)))
refused_same laws contexts octets Badly (Unreadable g) h k = absurd (no_first_fault laws octets h.0 g h.1 k.0)
refused_same laws contexts octets Badly UnknownMessage h k =
    absurd (k.2 (subst IsKnown (element_same laws octets h.0 k.0 h.1 k.1) (known_badly contexts h.0 h.2)))
refused_same laws contexts octets Badly Badly h k = refl

-- octets that came at a moment are one arrival
arrival_same : (laws : LowerLaws) (octets : List ℕ) (moment : ℕ) (x y : Arrival) → x.table ≡ y.table → IsArrival octets moment x → IsArrival octets moment y → SameArrival x y
arrival_same laws octets moment x y tables g h = record {
  tables = tables;
  frames = g.is_frame ∙ sym h.is_frame;
  moments = g.is_moment ∙ sym h.is_moment;
  identifiers = laws.ids_are_one octets x.ids.kind y.ids.kind _ _ _ _ g.has_ids h.has_ids;
}

-- octets have one reading
reading_same : (laws : LowerLaws) (contents : Contents) (contexts : List (List ℕ)) (octets : List ℕ) (moment : ℕ) (x y : Prepared)
    → IsReading contents contexts octets moment x → IsReading contents contexts octets moment y → SameReading x y
reading_same laws contents contexts octets moment (Message a x) (Message b y) g h = brings_same laws contents contexts octets moment x y g h
reading_same laws contents contexts octets moment (Message a x) (Refused b fault) g h = absurd (not_refused laws contents contexts octets moment x fault g h)
reading_same laws contents contexts octets moment (Message a x) (Lost b) g h = tt
reading_same laws contents contexts octets moment (Refused a fault) (Message b y) g h = absurd (not_refused laws contents contexts octets moment y fault h g)
reading_same laws contents contexts octets moment (Refused a fault) (Refused b other) g h = refused_same laws contexts octets fault other g h
reading_same laws contents contexts octets moment (Refused a fault) (Lost b) g h = tt
reading_same laws contents contexts octets moment (Lost a) y g h = tt

pub prepared_same : LowerLaws → PreparedIsOne
prepared_same laws contents contexts octets moment x y g h = record {
  same_arrival = arrival_same laws octets moment (arrival_of x) (arrival_of y) (g.by_table ∙ sym h.by_table) g.is_arrival h.is_arrival;
  same_reading = reading_same laws contents contexts octets moment x y g.is_reading h.is_reading;
}
