-- What holds of each message that was read.
use Rattle.fp_book.proofs.Names.{Abort, AreEntries, AreGiven, Begin, ComponentValue, Contents, Delivers, Entry, IdentifiersAreThoseOfTheMessage, IdsAreOne, IsSome, List, MessageValue, None, Option, PeerEnd, ReadMessagesHaveFewEntries, SameIds, Some, Tid, Unknown, Bool, [], abort, ap, arith, begin, cond, continuing, delivered, destination_identifier, element_count, end, entry_at, false, is_faulty, length, length-append, message_kind, octets_of, option_map, originating_identifier, refl, suc, sym, true, unidirectional, ℕ, ◌+◌, ◌<◌, ◌∙◌, ◌∷◌, ◌≡◌, ◌≢◌, ◌≤◌}
use Rattle.fp_entry.specs.declared.entry.EntryKind.TheVariants.{Opened}

-- as many entries are given as components are delivered
given_length : (contents : Contents) (moment : ℕ) (components : List ComponentValue) (entries : List Entry) → AreGiven contents moment components entries
    → length entries ≡ length components
given_length contents moment [] [] given = refl
given_length contents moment [] (entry ∷ entries) given = absurd given
given_length contents moment (component ∷ components) [] given = absurd given
given_length contents moment (component ∷ components) (entry ∷ entries) given = ap (λ (n : ℕ). suc n) (given_length contents moment components entries given.2)

-- and no more are delivered than there are
delivered_length : (components : List ComponentValue) → length (delivered components) ≤ length components
delivered_length [] = omega arith
delivered_length (component ∷ others) = by_fault (is_faulty component) component others (delivered_length others) where
  by_fault : (test : Bool) (component : ComponentValue) (others : List ComponentValue) → length (delivered others) ≤ length others
      → length (cond test (component ∷ []) (component ∷ delivered others)) ≤ length (component ∷ others)
  by_fault true component others few = omega arith
  by_fault false component others few = omega arith

delivers_length : (contents : Contents) (moment : ℕ) (components : List ComponentValue) (before entries : List Entry) → Delivers contents moment components before entries
    → length entries ≤ length before + length components
delivers_length contents moment components before entries given =
    let all = ap length given.2 ∙ length-append before given.0 in
    let same = given_length contents moment (delivered components) given.0 given.1 in
    omega (arith, all, same, delivered_length components)

-- one entry for each element at most, and one more
entries_few : (contents : Contents) (contexts : List (List ℕ)) (moment : ℕ) (message : MessageValue) (entries : List Entry) → AreEntries contents contexts moment message entries
    → length entries ≤ element_count message + 1
entries_few contents contexts moment unidirectional entries is = omega (arith, ap length is)
entries_few contents contexts moment (begin originating dialogue components) entries is =
    omega (arith, delivers_length contents moment components (entry_at moment (Opened is.0) ∷ []) entries is.2)
entries_few contents contexts moment (end destination dialogue components) entries is =
    let before = delivers_length contents moment components [] is.0 is.1 in
    omega (arith, before, ap length is.2 ∙ length-append is.0 (entry_at moment PeerEnd ∷ []))
entries_few contents contexts moment (continuing originating destination dialogue components) entries is =
    omega (arith, delivers_length contents moment components [] entries is)
entries_few contents contexts moment (abort destination reason) entries is = omega (arith, ap length is)

-- an Abort brings one
abort_one : (contents : Contents) (contexts : List (List ℕ)) (moment : ℕ) (message : MessageValue) (entries : List Entry) → AreEntries contents contexts moment message entries
    → message_kind message ≡ Abort → length entries ≡ 1
abort_one contents contexts moment (abort destination reason) entries is e = ap length is
abort_one contents contexts moment message entries is e = absurd (cc)

-- a Begin brings one at least, of what it opens
begin_some : (contents : Contents) (contexts : List (List ℕ)) (moment : ℕ) (message : MessageValue) (entries : List Entry) → AreEntries contents contexts moment message entries
    → message_kind message ≡ Begin → 0 < length entries
begin_some contents contexts moment (begin originating dialogue components) entries is e =
    let opening = entry_at moment (Opened is.0) ∷ [] in
    omega (arith, ap length is.2.2 ∙ length-append opening is.2.0)
begin_some contents contexts moment message entries is e = absurd (cc)

-- no message is of an unknown kind
kind_known : (message : MessageValue) → message_kind message ≢ Unknown
kind_known unidirectional e = absurd (cc)
kind_known message e = absurd (cc)

tid_there : (o : Option Tid) (octets : List ℕ) → option_map octets_of o ≡ Some octets → IsSome o
tid_there None octets e = absurd (cc)
tid_there (Some tid) octets e = refl

-- a Begin has an originating identifier
begin_there : (message : MessageValue) (o : Option Tid) → option_map octets_of o ≡ originating_identifier message → message_kind message ≡ Begin → IsSome o
begin_there (begin originating dialogue components) o same e = tid_there o originating same
begin_there message o same e = absurd (cc)

-- what holds of a message that was read, by what is known of all octets
pub read_messages : IdentifiersAreThoseOfTheMessage → IdsAreOne → ReadMessagesHaveFewEntries
read_messages of_message one contents contexts octets moment arrival incoming is =
    let brings = is.is_reading in
    let element = brings.0 in
    let message = brings.1 in
    let spelled = brings.2 in
    let is_message = brings.3 in
    let came = brings.4 in
    let same : SameIds arrival.ids.kind (message_kind message) (option_map octets_of arrival.ids.orig) (originating_identifier message) (option_map octets_of arrival.ids.dest) (destination_identifier message) =
    one octets arrival.ids.kind (message_kind message) (option_map octets_of arrival.ids.orig) (originating_identifier message)
    (option_map octets_of arrival.ids.dest) (destination_identifier message) is.is_arrival.has_ids (of_message octets element message spelled.0 is_message)
    in
    record {
      known = λ e. kind_known message (sym same.kinds ∙ e);
      begins_some = λ e. begin_some contents contexts moment message incoming.entries came.are_entries (sym same.kinds ∙ e);
      begins = λ e. begin_there message arrival.ids.orig same.originating (sym same.kinds ∙ e);
      aborts = λ e. abort_one contents contexts moment message incoming.entries came.are_entries (sym same.kinds ∙ e);
      few = omega (arith, entries_few contents contexts moment message incoming.entries came.are_entries, came.are_elements);
    }
