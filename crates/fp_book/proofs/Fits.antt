-- What the verdict on a message has made sure of.
use Rattle.fp_book.proofs.Names.{Abort, Arrival, Begin, Bool, Continue, Discard, End, Extend, Fault, Ids, Incoming, Kind, Lost, Message, None, Open, Option, Prepared, Refuse, Refused, Rule, Shelf, Some, Tid, Unidirectional, Verdict, ap, arith, arrival_of, cond, cond_both, entries_in, eqb-false, facts_with, false, first_that_fits, inl, inr, is_admitted, is_full, lacks_room, leb-false, leb-true, length, ltb-false, named, nat_eq, nat_le, nat_lt, not, not-true, number_of, octets_of, option_and_then, option_map_or, or_parts, place_count, refl, rules_up, subst, too_many, true, verdict, verdict_by, ℕ, ⊤, ◌+◌, ◌<◌, ◌||◌, ◌∙◌, ◌≡◌, ◌≢◌, ◌≤◌, ◌⊎◌, most_dialogues, all_entries, most_unserved, most_elements}
use Rattle.std.specs.FinMap as map
use Rattle.fp_book.proofs.Tells.{names_by}
use Rattle.fp_q773.specs.declared.provider_abort.AbortCause.TheVariants as cause

-- there is room for the entries
pub record CanGrow (s : Shelf) (came : Prepared) : Type 0 where
  pub few : length (entries_in came) ≤ most_elements + 1
  pub room : s.entries < all_entries

-- the dialogue takes messages, and there is room for the entries
pub record CanAccept (s : Shelf) (local : ℕ) (came : Prepared) : Type 0 where
  pub admitted : option_map_or is_admitted (map.get s.rows local) false ≡ true
  pub few : length (entries_in came) ≤ most_elements + 1
  pub room : s.entries < all_entries

-- there is room for one more dialogue
pub record CanOpen (s : Shelf) (came : Prepared) : Type 0 where
  pub up : s.is_down ≡ false
  pub grow : CanGrow s came
  pub rows : map.len s.rows < most_dialogues
  pub some : 0 < length (entries_in came)

-- the dialogue takes messages, and its peer ends it
pub record CanEnd (s : Shelf) (local : ℕ) (came : Prepared) : Type 0 where
  pub admitted : option_map_or is_admitted (map.get s.rows local) false ≡ true
  pub few : length (entries_in came) ≤ most_elements + 1
  pub limit : ((s.entries < all_entries) × (length (entries_in came) ≤ most_elements + 1)) ⊎ (length (entries_in came) ≤ 1)

-- a dialogue that is named takes messages
abbrev pub IsKnown : Shelf → Option ℕ → Type 0
IsKnown s dialogue = (local : ℕ) → dialogue ≡ Some local → option_map_or is_admitted (map.get s.rows local) false ≡ true

-- the link is up, and the dialogue that is closed took messages
pub record CanRefuse (s : Shelf) (closes : Option ℕ) : Type 0 where
  pub up : s.is_down ≡ false
  pub known : IsKnown s closes

-- what a verdict may rely on
abbrev pub Allowed : Shelf → Prepared → Verdict → Type 0
Allowed s came Discard = ⊤
Allowed s came (Refuse cause closes) = CanRefuse s closes
Allowed s came (Open peer) = CanOpen s came
Allowed s came (Extend local false) = CanAccept s local came
Allowed s came (Extend local true) = CanEnd s local came

-- what a rule may rely on
abbrev AllowedRule : Shelf → Prepared → Rule → Type 0
AllowedRule s came Rule.Open = CanOpen s came
AllowedRule s came (Rule.Extend false) = CanGrow s came
AllowedRule s came (Rule.Extend true) = (length (entries_in came) ≤ most_elements + 1) × (((s.entries < all_entries) × (length (entries_in came) ≤ most_elements + 1)) ⊎ (length (entries_in came) ≤ 1))
AllowedRule s came rule = ⊤

lost_fits : (s : Shelf) (o : Option ℕ) (arrival : Arrival) (kind : Kind) → AllowedRule s (Lost arrival) (first_that_fits (rules_up (facts_with s o) (Lost arrival) kind))
lost_fits s None arrival Unidirectional = tt
lost_fits s None arrival kind = tt
lost_fits s (Some local) arrival Unidirectional = tt
lost_fits s (Some local) arrival kind = tt

refused_fits : (s : Shelf) (o : Option ℕ) (arrival : Arrival) (fault : Fault) (kind : Kind) → AllowedRule s (Refused arrival fault) (first_that_fits (rules_up (facts_with s o) (Refused arrival fault) kind))
refused_fits s o arrival fault Unidirectional = tt
refused_fits s o arrival fault kind = tt

-- a message for which room doesn't lack
can_grow : (s : Shelf) (o : Option ℕ) (arrival : Arrival) (incoming : Incoming) → lacks_room (facts_with s o) (Message arrival incoming) ≡ false → CanGrow s (Message arrival incoming)
can_grow s o arrival incoming e =
    let places = nat_lt most_unserved ((facts_with s o).unserved + place_count incoming.entries) in
    let a : (too_many incoming ≡ false) × ((places || is_full s) ≡ false) = or_parts (too_many incoming) (places || is_full s) e in
    let b : (places ≡ false) × (is_full s ≡ false) = or_parts places (is_full s) a.1 in
    let long : nat_lt (most_elements + 1) (length incoming.entries) ≡ false = (or_parts (nat_lt most_elements incoming.elements) (nat_lt (most_elements + 1) (length incoming.entries)) a.0).1 in
    record { few = ltb-false (most_elements + 1) (length incoming.entries) long; room = leb-false all_entries s.entries b.1 }

begin_fits : (s : Shelf) (o : Option ℕ) (arrival : Arrival) (incoming : Incoming) → s.is_down ≡ false → AllowedRule s (Message arrival incoming) (first_that_fits (rules_up (facts_with s o) (Message arrival incoming) Begin))
begin_fits s o arrival incoming up =
    let came : Prepared = Message arrival incoming in
    let lacks = lacks_room (facts_with s o) came in
    let held = nat_le most_dialogues (map.len s.rows) in
    let away : Rule = Rule.Refuse (Some cause.ResourceLimitation) in
    let some = not (nat_eq (length incoming.entries) 0) in
    cond_both (lacks || held) away (cond some Rule.Open Rule.Discard) (AllowedRule s came) (λ _. tt) (λ e.
    cond_both some Rule.Open Rule.Discard (AllowedRule s came) (λ any.
    let a : (lacks ≡ false) × (held ≡ false) = or_parts lacks held e in
    record { up = up; grow = can_grow s o arrival incoming a.0; rows = leb-false most_dialogues (map.len s.rows) a.1; some = let other : length incoming.entries ≢ 0 = eqb-false (length incoming.entries) 0 (not-true (nat_eq (length incoming.entries) 0) any) in omega (arith, other) })
    (λ _. tt))

-- a Continue or an End that names a dialogue
more_fits : (s : Shelf) (o : Option ℕ) (arrival : Arrival) (incoming : Incoming) (taken : Rule) → (CanGrow s (Message arrival incoming) → AllowedRule s (Message arrival incoming) taken)
    → AllowedRule s (Message arrival incoming) (cond (lacks_room (facts_with s o) (Message arrival incoming)) (Rule.Refuse (Some cause.ResourceLimitation)) taken)
more_fits s o arrival incoming taken fits =
    let lacks = lacks_room (facts_with s o) (Message arrival incoming) in
    cond_both lacks (Rule.Refuse (Some cause.ResourceLimitation)) taken (AllowedRule s (Message arrival incoming)) (λ _. tt) (λ room. fits (can_grow s o arrival incoming room))

message_fits : (s : Shelf) (o : Option ℕ) (arrival : Arrival) (incoming : Incoming) (kind : Kind) → s.is_down ≡ false
    → AllowedRule s (Message arrival incoming) (first_that_fits (rules_up (facts_with s o) (Message arrival incoming) kind))
message_fits s o arrival incoming Begin up = begin_fits s o arrival incoming up
message_fits s None arrival incoming kind up = tt
message_fits s (Some local) arrival incoming Continue up = more_fits s (Some local) arrival incoming (Rule.Extend false) (λ grow. grow)
message_fits s (Some local) arrival incoming End up = more_fits s (Some local) arrival incoming (Rule.Extend true) (λ grow. (grow.few, inl (grow.room, grow.few)))
message_fits s (Some local) arrival incoming Abort up =
    cond_both (nat_le (length incoming.entries) 1) (Rule.Extend true) Rule.Discard (AllowedRule s (Message arrival incoming))
    (λ e. let one : length incoming.entries ≤ 1 = leb-true (length incoming.entries) 1 e in (omega (arith, one), inr one)) (λ _. tt)
message_fits s (Some local) arrival incoming kind up = tt

up_fits : (s : Shelf) (o : Option ℕ) (came : Prepared) (kind : Kind) → s.is_down ≡ false → AllowedRule s came (first_that_fits (rules_up (facts_with s o) came kind))
up_fits s o (Lost arrival) kind up = lost_fits s o arrival kind
up_fits s o (Refused arrival fault) kind up = refused_fits s o arrival fault kind
up_fits s o (Message arrival incoming) kind up = message_fits s o arrival incoming kind up

-- so for the dialogue that the message names
fits_by : (s : Shelf) (came : Prepared) (rule : Rule) (o : Option ℕ) (sender : Option Tid) → s.is_down ≡ false → IsKnown s o → AllowedRule s came rule → Allowed s came (verdict_by rule o sender)
fits_by s came Rule.Discard o sender up known fits = tt
fits_by s came (Rule.Refuse cause) o sender up known fits = record { up = up; known = known }
fits_by s came Rule.Open o None up known fits = tt
fits_by s came Rule.Open o (Some peer) up known fits = fits
fits_by s came (Rule.Extend ends) None sender up known fits = tt
fits_by s came (Rule.Extend false) (Some local) sender up known fits = record { admitted = known local refl; few = fits.few; room = fits.room }
fits_by s came (Rule.Extend true) (Some local) sender up known fits = record { admitted = known local refl; few = fits.0; limit = fits.1 }

-- a message names an admitted dialogue, or none
named_known : (s : Shelf) (ids : Ids) → IsKnown s (named s ids)
named_known s ids local e = (names_by s (option_and_then (λ (tid : Tid). number_of (octets_of tid)) ids.dest) local e).takes

-- each verdict has made sure of what it may rely on
pub verdict_allowed : (s : Shelf) (came : Prepared) → Allowed s came (verdict s came)
verdict_allowed s came =
    let ids = (arrival_of came).ids in
    let o = named s ids in
    let others = first_that_fits (rules_up (facts_with s o) came ids.kind) in
    cond_both s.is_down Rule.Discard others (λ rule. Allowed s came (verdict_by rule o ids.orig)) (λ _. tt) (λ up. fits_by s came others o ids.orig up (named_known s ids) (up_fits s o came ids.kind up))

-- so a dialogue that accepts a message takes it, and it has few entries
extend_by : (s : Shelf) (came : Prepared) (local : ℕ) (ends : Bool) → Allowed s came (Extend local ends) → (option_map_or is_admitted (map.get s.rows local) false ≡ true) × (length (entries_in came) ≤ most_elements + 1)
extend_by s came local false can = (can.admitted, can.few)
extend_by s came local true can = (can.admitted, can.few)

pub can_extend : (t s : Shelf) (came : Prepared) (local : ℕ) (ends : Bool) → t ≡ s → verdict s came ≡ Extend local ends → (option_map_or is_admitted (map.get t.rows local) false ≡ true) × (length (entries_in came) ≤ most_elements + 1)
can_extend t s came local ends same is = extend_by t came local ends (subst (Allowed t came) (ap (λ s. verdict s came) same ∙ is) (verdict_allowed t came))

pub can_open : (t s : Shelf) (came : Prepared) (peer : Tid) → t ≡ s → verdict s came ≡ Open peer → CanOpen t came
can_open t s came peer same is = subst (Allowed t came) (ap (λ s. verdict s came) same ∙ is) (verdict_allowed t came)
