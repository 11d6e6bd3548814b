-- The rules and closed days by their numbers, record by record.
use Rattle.std.proofs.Common.{◌≡◌, ◌⊎◌, inl, inr, ◌+◌, ◌≤◌, ℕ, ℤ, List, [], ◌∷◌, ◌++◌, Bool, true, false, ◌&&◌, Some, Result, Ok, Err, nat_lt, filter, length, map, codes, if◌then◌else◌, refl, sym, ap, ◌∙◌, arith, append_assoc}
use Rattle.std.specs.Prelude.{bytes_eq}
use Rattle.std.specs.BTreeSet.{insert_key}
use Rattle.std.specs.Map.{lookup}
use Rattle.std.specs.Option.{unwrap_or}
use Rattle.std.specs.Ordering.{int_cmp}
use Rattle.std.proofs.lemmas.Bool.Decides.{nat_tests}
use Rattle.std.proofs.lemmas.List.{append-nil, length-append, map-append}
use Rattle.std.proofs.lemmas.List.Elements.{filter-append, filter_map-append}
use Rattle.fp_records.specs.Closed.{as_set, closed_in, closed_days}
use Rattle.fp_records.specs.Closings.{Closes, ClosesMore, Closings, at_number, with_day}
use Rattle.fp_records.specs.Fields.{numbered_in}
use Rattle.fp_records.specs.File.{AreItems, FirstRefused, Refuses, rules_of}
use Rattle.fp_records.specs.Gathered.{Gathered, HasRoom, Takes, accepted, has_room_for, with_room}
use Rattle.fp_records.specs.Items.{all_closed, all_rules, as_closed, as_rule, closed_of, item_in, rule_of}
use Rattle.fp_records.specs.Steps.{and_then}
use Rattle.fp_records.specs.Unread.{Unread}
use Rattle.fp_records.specs.Version.{begins_with}
use Rattle.fp_records.specs.declared.closed.ClosedDay.{ClosedDay}
use Rattle.fp_records.specs.declared.fault.Reason.{Reason}
use Rattle.fp_records.specs.declared.fault.Reason.TheVariants.{TooMany}
use Rattle.fp_records.specs.declared.fields.NumberedRule.{NumberedRule}
use Rattle.fp_records.specs.declared.gathering.Gathering.{Gathering}
use Rattle.fp_records.specs.declared.item.Item.{Item}
use Rattle.fp_records.specs.declared.item.Item.TheVariants.{Rule, Closed}
use Rattle.fp_records.specs.declared.version.Version.{Version}
use Rattle.fp_records.specs.declared.version.Version.TheVariants.{One, Two}
use Rattle.fp_records.proofs.Entries.{lookup-insert_entry, same_digits}
use Rattle.fp_records.proofs.Grouping.{group-is, holds-more, rules_of-more}
use Rattle.fp_records.proofs.Numbers.{numbered-decimal}
use Rattle.fp_records.proofs.Shares.{fold-append}

-- what one more item adds to the rules and to the closed days
rules-rule : (before : List Item) (numbered : NumberedRule) → all_rules (before ++ Rule numbered ∷ []) ≡ all_rules before ++ numbered ∷ []
rules-rule before numbered = filter_map-append rule_of before (Rule numbered ∷ [])

rules-closed : (before : List Item) (day : ClosedDay) → all_rules (before ++ Closed day ∷ []) ≡ all_rules before
rules-closed before day = filter_map-append rule_of before (Closed day ∷ []) ∙ append-nil (all_rules before)

closed-rule : (before : List Item) (numbered : NumberedRule) → all_closed (before ++ Rule numbered ∷ []) ≡ all_closed before
closed-rule before numbered = filter_map-append closed_of before (Rule numbered ∷ []) ∙ append-nil (all_closed before)

closed-closed : (before : List Item) (day : ClosedDay) → all_closed (before ++ Closed day ∷ []) ≡ all_closed before ++ day ∷ []
closed-closed before day = filter_map-append closed_of before (Closed day ∷ [])

-- the days of a number with one more closed day after the others
closed_days-more : (digits : List ℕ) (before : List ClosedDay) (closed : ClosedDay)
    → closed_days digits (before ++ closed ∷ []) ≡ (if bytes_eq digits closed.number then insert_key int_cmp (closed_days digits before) closed.day else closed_days digits before)
closed_days-more digits before closed = rw (filter-append (λ c. bytes_eq digits c.number) before (closed ∷ [])) (by (bytes_eq digits closed.number))
  where
    own : List ClosedDay
    own = filter (λ c. bytes_eq digits c.number) before

    by : (here : Bool) → as_set (map (λ c. c.day) (own ++ (if here then closed ∷ [] else []))) ≡ (if here then insert_key int_cmp (closed_days digits before) closed.day else closed_days digits before)
    by true = ap as_set (map-append (λ c. c.day) own (closed ∷ [])) ∙ fold-append (insert_key int_cmp) [] (map (λ c. c.day) own) (closed.day ∷ [])
    by false = ap (λ c. as_set (map (λ d. d.day) c)) (append-nil own)

-- what is at a number once a day is put into a set
pub at_number-with_day : (digits number : List ℕ) (day : ℤ) (entries : List (List ℕ × List ℤ))
    → at_number digits (with_day entries number day) ≡ (if bytes_eq digits number then insert_key int_cmp (at_number number entries) day else at_number digits entries)
at_number-with_day digits number day entries = rw (lookup-insert_entry digits number (insert_key int_cmp (at_number number entries) day) entries) (by (bytes_eq digits number))
  where
    by : (here : Bool) → unwrap_or (if here then Some (insert_key int_cmp (at_number number entries) day) else lookup (bytes_eq digits) entries) []
        ≡ (if here then insert_key int_cmp (at_number number entries) day else at_number digits entries)
    by true = refl
    by false = refl

-- one more closed day is held
closes-more : (before : List ClosedDay) (old new : Closings) (closed : ClosedDay) → Closes before old → ClosesMore old closed new → Closes (before ++ closed ∷ []) new
closes-more before old new closed holds adds = record {
  count = adds.count ∙ (ap (λ n. n + 1) holds.count ∙ sym (length-append before (closed ∷ [])));
  each = λ digits. rw (adds.each digits, closed_days-more digits before closed) (by digits (bytes_eq digits closed.number) refl);
}
  where
    by : (digits : List ℕ) (here : Bool) → bytes_eq digits closed.number ≡ here
        → (if here then insert_key int_cmp (at_number closed.number old.days) closed.day else at_number digits old.days)
        ≡ (if here then insert_key int_cmp (closed_days digits before) closed.day else closed_days digits before)
    by digits true is = rw (same_digits digits closed.number is) (ap (λ days. insert_key int_cmp days closed.day) (holds.each closed.number))
    by digits false is = holds.each digits

-- one more item is held
gathered-more : (before : List Item) (old new : Gathering) (item : Item) → Gathered before old → Takes old item new → Gathered (before ++ item ∷ []) new
gathered-more before old new (Rule numbered) holds takes = record {
  rules = rw (rules-rule before numbered) (holds-more (all_rules before) old.rules new.rules numbered holds.rules takes.0);
  closed = rw (closed-rule before numbered, takes.1) holds.closed;
}
gathered-more before old new (Closed day) holds takes = record {
  rules = rw (rules-closed before day, takes.0) holds.rules;
  closed = rw (closed-closed before day) (closes-more (all_closed before) old.closed new.closed day holds.closed takes.1);
}

-- how far the records of a text were read: those that were, their items, and what was gathered of these
pub record SoFar (version : Version) (whole left : Unread) (gathering : Gathering) (front : List (List (List ℕ))) (before : List Item) : Type 0 where
  pub split : whole.rows ≡ front ++ left.rows
  pub place : left.place ≡ whole.place + length front
  pub are_items : AreItems version front before
  pub holds : Gathered before gathering

-- a record that is accepted reads as the item, and there is room for it
accepted-ok : (gathering : Gathering) (version : Version) (fields : List (List ℕ)) (item : Item) → accepted gathering version fields ≡ Ok item
    → (item_in version fields ≡ Ok item) × (has_room_for gathering item ≡ true)
accepted-ok gathering version fields item is = by (item_in version fields) refl is
  where
    room : (other : Item) (free : Bool) → has_room_for gathering other ≡ free → (if free then Ok other else Err TooMany) ≡ Ok item → (other ≡ item) × (has_room_for gathering other ≡ true)
    room other true free same = (cc same, free)
    room other false free same = cc same

    by : (read : Result Item Reason) → item_in version fields ≡ read → and_then read (with_room gathering) ≡ Ok item → (item_in version fields ≡ Ok item) × (has_room_for gathering item ≡ true)
    by (Ok other) was same =
        let (equal, free) = room other (has_room_for gathering other) refl same in
        (was ∙ ap Ok equal, rw equal at free)
    by (Err reason) was same = cc same

-- the limits with one more item for which there is room
record Within (items : List Item) : Type 0 where
  all : length (all_rules items) ≤ 100000
  each : (digits : List ℕ) → length (rules_of digits (all_rules items)) ≤ 1000
  closed : length (all_closed items) ≤ 10000

within : (before : List Item) (gathering : Gathering) (item : Item) → Within before → Gathered before gathering → has_room_for gathering item ≡ true → Within (before ++ item ∷ [])
within before gathering (Closed day) are holds free =
    let room : length (all_closed before) + 1 ≤ 10000 = grind (arith, nat_tests, rw holds.closed.count at free) in
    record {
      all = rw (rules-closed before day) are.all;
      each = λ digits. rw (rules-closed before day) (are.each digits);
      closed = rw (closed-closed before day, length-append (all_closed before) (day ∷ [])) room;
    }
within before gathering (Rule numbered) are holds free =
    let room = rw (group-is numbered.number (all_rules before) gathering.rules holds.rules, holds.rules.count) at free in
    let all : length (all_rules before) + 1 ≤ 100000 = grind (arith, nat_tests, room) in
    record {
      all = rw (rules-rule before numbered, length-append (all_rules before) (numbered ∷ [])) all;
      each = λ digits. rw (rules-rule before numbered, rules_of-more digits (all_rules before) numbered) (own digits (bytes_eq digits numbered.number) refl room);
      closed = rw (closed-rule before numbered) are.closed;
    }
  where
    own : (digits : List ℕ) (here : Bool) → bytes_eq digits numbered.number ≡ here
        → (nat_lt (length (all_rules before)) 100000 && nat_lt (length (rules_of numbered.number (all_rules before))) 1000) ≡ true
        → length (if here then rules_of digits (all_rules before) ++ numbered.rule ∷ [] else rules_of digits (all_rules before)) ≤ 1000
    own digits true equal room =
        let same = same_digits digits numbered.number equal in
        let short : length (rules_of numbered.number (all_rules before)) + 1 ≤ 1000 = grind (arith, nat_tests, room) in
        rw (same, length-append (rules_of numbered.number (all_rules before)) (numbered.rule ∷ [])) short
    own digits false equal room = are.each digits

-- one more record is read
pub so_far-more : (version : Version) (whole old new : Unread) (gathering more : Gathering) (front : List (List (List ℕ))) (before : List Item) (fields : List (List ℕ)) (item : Item)
    → SoFar version whole old gathering front before → old.rows ≡ fields ∷ new.rows → new.place ≡ old.place + 1 → accepted gathering version fields ≡ Ok item → Takes gathering item more
    → SoFar version whole new more (front ++ fields ∷ []) (before ++ item ∷ [])
so_far-more version whole old new gathering more front before fields item far rows place is takes =
    let (read, free) = accepted-ok gathering version fields item is in
    let are = far.are_items in
    let limits = within before gathering item (record { all = are.all; each = are.each; closed = are.closed }) far.holds free in
    record {
      split = far.split ∙ (ap (λ left. front ++ left) rows ∙ sym (append_assoc front (fields ∷ []) new.rows));
      place = rw (length-append front (fields ∷ [])) (omega (arith, place, far.place));
      are_items = record {
        read = rw (map-append (item_in version) front (fields ∷ []), map-append {B = Result Item Reason} Ok before (item ∷ []), are.read, read) refl;
        all = limits.all;
        each = limits.each;
        closed = limits.closed;
      };
      holds = gathered-more before gathering more item far.holds takes;
    }

-- or refused, and is the first that is
pub so_far-refused : (version : Version) (whole old new : Unread) (gathering : Gathering) (front : List (List (List ℕ))) (before : List Item) (fields : List (List ℕ)) (reason : Reason)
    → SoFar version whole old gathering front before → old.rows ≡ fields ∷ new.rows → accepted gathering version fields ≡ Err reason
    → FirstRefused version whole.place whole.rows (old.place + 1) reason
so_far-refused version whole old new gathering front before fields reason far rows is = (
  front,
  fields,
  new.rows,
  before,
  record {
    split = far.split ∙ ap (λ left. front ++ left) rows;
    place = ap (λ n. n + 1) far.place;
    are_items = far.are_items;
    refused = by (item_in version fields) is;
  },
)
  where
    full : (numbered : NumberedRule) (free : Bool) → (nat_lt (length (all_rules before)) 100000 && nat_lt (length (rules_of numbered.number (all_rules before))) 1000) ≡ free
        → (if free then Ok (Rule numbered) else Err TooMany) ≡ Err reason
        → (reason ≡ TooMany) × ((length (all_rules before) ≡ 100000) ⊎ (length (rules_of numbered.number (all_rules before)) ≡ 1000))
    full numbered true free same = cc same
    full numbered false free same = (cc same, either (nat_lt (length (all_rules before)) 100000) refl free)
      where
        either : (all : Bool) → nat_lt (length (all_rules before)) 100000 ≡ all → (all && nat_lt (length (rules_of numbered.number (all_rules before))) 1000) ≡ false
            → (length (all_rules before) ≡ 100000) ⊎ (length (rules_of numbered.number (all_rules before)) ≡ 1000)
        either true is_all few =
            let most = far.are_items.each numbered.number in
            inr (grind (arith, nat_tests, few, most))
        either false is_all few =
            let most = far.are_items.all in
            inl (grind (arith, nat_tests, is_all, most))

    no_place : (day : ClosedDay) (free : Bool) → nat_lt (length (all_closed before)) 10000 ≡ free → (if free then Ok (Closed day) else Err TooMany) ≡ Err reason
        → (reason ≡ TooMany) × (length (all_closed before) ≡ 10000)
    no_place day true free same = cc same
    no_place day false free same =
        let most = far.are_items.closed in
        (cc same, grind (arith, nat_tests, free, most))

    by : (read : Result Item Reason) → and_then read (with_room gathering) ≡ Err reason → Refuses before read reason
    by (Err fault) same = cc same
    by (Ok (Closed day)) same = no_place day (nat_lt (length (all_closed before)) 10000) refl (rw far.holds.closed.count at same)
    by (Ok (Rule numbered)) same =
        full numbered (nat_lt (length (all_rules before)) 100000 && nat_lt (length (rules_of numbered.number (all_rules before))) 1000) refl
        (rw (group-is numbered.number (all_rules before) gathering.rules far.holds.rules, far.holds.rules.count) at same)

-- no record is left
pub so_far-end : (version : Version) (whole left : Unread) (gathering : Gathering) (front : List (List (List ℕ))) (before : List Item)
    → SoFar version whole left gathering front before → left.rows ≡ [] → AreItems version whole.rows before
so_far-end version whole left gathering front before far none =
    let all : whole.rows ≡ front = far.split ∙ (ap (λ rows. front ++ rows) none ∙ append-nil front) in
    rw all far.are_items

-- a record that says a rule reads as that rule
rule_read : (fields : List (List ℕ)) (numbered : NumberedRule) → as_rule fields ≡ Ok (Rule numbered) → numbered_in fields ≡ Ok numbered
rule_read fields numbered is = by (numbered_in fields) is
  where
    by : (read : Result NumberedRule Reason) → and_then read (λ n. Ok (Rule n)) ≡ Ok (Rule numbered) → read ≡ Ok numbered
    by (Ok other) same = cc same
    by (Err reason) same = cc same

no_rule_read : (fields : List (List ℕ)) (numbered : NumberedRule) → as_closed fields ≡ Ok (Rule numbered) → ⊥
no_rule_read fields numbered is = by (closed_in fields) is
  where
    by : (read : Result ClosedDay Reason) → and_then read (λ day. Ok (Closed day)) ≡ Ok (Rule numbered) → ⊥
    by (Ok day) same = cc same
    by (Err reason) same = cc same

item_read : (version : Version) (fields : List (List ℕ)) (numbered : NumberedRule) → item_in version fields ≡ Ok (Rule numbered) → numbered_in fields ≡ Ok numbered
item_read One fields numbered is = rule_read fields numbered is
item_read Two fields numbered is = by (begins_with (codes "closed") fields) is
  where
    by : (closed : Bool) → (if closed then as_closed fields else as_rule fields) ≡ Ok (Rule numbered) → numbered_in fields ≡ Ok numbered
    by true same = absurd (no_rule_read fields numbered same)
    by false same = rule_read fields numbered same

-- there is room for what a record says, and the number of its rule is decimal digits
pub room-for : (gathering : Gathering) (version : Version) (fields : List (List ℕ)) (item : Item) → item_in version fields ≡ Ok item → has_room_for gathering item ≡ true → HasRoom gathering item
room-for gathering version fields (Rule numbered) is free = (free, numbered-decimal fields numbered (item_read version fields numbered is))
room-for gathering version fields (Closed day) is free = free
