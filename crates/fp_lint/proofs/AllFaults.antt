-- The faults of a file begin with its first one, and a file without a fault has none.
use Rattle.std.proofs.Common.{◌≡◌, ◌⊎◌, ℕ, ℤ, ◌+◌, List, [], ◌∷◌, ◌++◌, Bool, true, false, ◌&&◌, cond, Option, Some, None, Result, Ok, Err, bytes_eq, codes, drop, find, length, map, option_map, take, if◌then◌else◌, refl, sym, ap, subst, ◌∙◌, arith, inl, inr}
use Rattle.std.specs.Prelude.{IsErrAnd, MatchResult, is_some, not}
use Rattle.std.specs.List.{enumerate_from, flat_map, list_all}
use Rattle.fp_records.specs.Closed.{closed_from, closed_in}
use Rattle.fp_records.specs.Date.{date_of}
use Rattle.fp_records.specs.Digits.{some_digits_of}
use Rattle.fp_records.specs.Fields.{Check, are_destinations, checks, field, first_fault, has_count, numbered_in, unless, verb_of, whole, written_in}
use Rattle.fp_records.specs.File.{FaultHeaded, FaultStarted, FaultUnder, File, FirstFault, IsFile, IsHeaded, IsStarted, Refuses}
use Rattle.fp_records.specs.Head.{head_from, head_of, offset_of}
use Rattle.fp_records.specs.Items.{as_closed, as_rule, item_in}
use Rattle.fp_records.specs.Number.{number_up_to}
use Rattle.fp_records.specs.Steps.{and_then}
use Rattle.fp_records.specs.Table.{Contents, IsTable, Reads}
use Rattle.fp_records.specs.Version.{begins_with, start_by, version_of}
use Rattle.fp_records.specs.declared.closed.ClosedDay.{ClosedDay}
use Rattle.fp_records.specs.declared.fault.Reason.{Reason}
use Rattle.fp_records.specs.declared.fault.Reason.TheVariants.{BadAction, BadClosed, BadDays, BadDestination, BadHead, BadNumber, BadPrefix, BadTime, BadVersion, BadWeight, FieldCount, TooMany}
use Rattle.fp_records.specs.declared.fault.RecordsFault.{RecordsFault}
use Rattle.fp_records.specs.declared.fault.RecordsFault.TheVariants.{Record, Memory}
use Rattle.fp_records.specs.declared.fields.NumberedRule.{NumberedRule}
use Rattle.fp_records.specs.declared.head.Head.{Head}
use Rattle.fp_records.specs.declared.item.Item.{Item}
use Rattle.fp_records.specs.declared.item.Item.TheVariants as item
use Rattle.fp_records.specs.declared.version.Version.{Version}
use Rattle.fp_records.specs.declared.version.Version.TheVariants.{One, Two}
use Rattle.fp_lint.specs.Faults.{AreFaults, AreFound, BeginWith, closed_faults, count_fits, destination_faults, faults_by, head_faults, headed_faults, item_faults, items_faults, limit_fault, own_faults, rule_faults, rule_parts, started_faults, unless_good}
use Rattle.fp_lint.specs.declared.fault.Fault.{Fault}
use Rattle.fp_lint.specs.declared.fault.Part.{Part}
use Rattle.fp_lint.specs.declared.fault.Part.TheVariants.{Whole, Field}

-- more faults after those that there are
begin-more : (at : ℕ) (reason : Reason) (xs ys : List Fault) → BeginWith at reason xs → BeginWith at reason (xs ++ ys)
begin-more at reason [] ys begin = absurd begin
begin-more at reason (x ∷ xs) ys begin = begin

-- the faults of parts begin with that of the first check that fails
first-by : (at : ℕ) (fields : List (List ℕ)) (parts : List Part) (tests : List Check) (reason : Reason) → length parts ≡ length tests
    → first_fault tests fields ≡ Some reason → BeginWith at reason (faults_by at fields parts tests)
first-by at fields [] [] reason same is = cc is
first-by at fields (part ∷ parts) [] reason same is = cc is
first-by at fields [] (check ∷ tests) reason same is = absurd (omega arith)
first-by at fields (part ∷ parts) (check ∷ tests) reason same is =
    by (check.passes fields) is (first-by at fields parts tests reason (omega arith))
  where
    by : (passes : Bool) → option_map (λ c. c.fault) (cond (not passes) (Some check) (find (λ c. not (c.passes fields)) tests)) ≡ Some reason
        → (first_fault tests fields ≡ Some reason → BeginWith at reason (faults_by at fields parts tests))
        → BeginWith at reason (unless_good passes at part check.fault ++ faults_by at fields parts tests)
    by true is more = more is
    by false is more = (refl, cc is)

-- there is none if none fails
none-by : (at : ℕ) (fields : List (List ℕ)) (parts : List Part) (tests : List Check) → first_fault tests fields ≡ None → faults_by at fields parts tests ≡ []
none-by at fields [] tests is = refl
none-by at fields (part ∷ parts) [] is = refl
none-by at fields (part ∷ parts) (check ∷ tests) is = by (check.passes fields) is (none-by at fields parts tests)
  where
    by : (passes : Bool) → option_map (λ c. c.fault) (cond (not passes) (Some check) (find (λ c. not (c.passes fields)) tests)) ≡ None
        → (first_fault tests fields ≡ None → faults_by at fields parts tests ≡ [])
        → unless_good passes at part check.fault ++ faults_by at fields parts tests ≡ []
    by true is more = more is
    by false is more = cc is

-- the first fault of some tests and then others
abbrev or_else_fault : Option Reason → Option Reason → Option Reason
or_else_fault None later = later
or_else_fault (Some reason) later = Some reason

first-split : (xs ys : List Check) (fields : List (List ℕ)) → first_fault (xs ++ ys) fields ≡ or_else_fault (first_fault xs fields) (first_fault ys fields)
first-split [] ys fields = refl
first-split (check ∷ xs) ys fields = by (check.passes fields) (first-split xs ys fields)
  where
    by : (passes : Bool) → first_fault (xs ++ ys) fields ≡ or_else_fault (first_fault xs fields) (first_fault ys fields)
        → option_map (λ c. c.fault) (cond (not passes) (Some check) (find (λ c. not (c.passes fields)) (xs ++ ys)))
        ≡ or_else_fault (option_map (λ c. c.fault) (cond (not passes) (Some check) (find (λ c. not (c.passes fields)) xs))) (first_fault ys fields)
    by true more = more
    by false more = refl

-- if none of some tests fails the last of them doesn't
last-passes : (tests : List Check) (last : Check) (fields : List (List ℕ)) → first_fault (tests ++ last ∷ []) fields ≡ None → last.passes fields ≡ true
last-passes [] last fields is = by (last.passes fields) is
  where
    by : (passes : Bool) → option_map (λ c. c.fault) (cond (not passes) (Some last) None) ≡ None → passes ≡ true
    by true is = refl
    by false is = cc is
last-passes (check ∷ tests) last fields is = by (check.passes fields) is (last-passes tests last fields)
  where
    by : (passes : Bool) → option_map (λ c. c.fault) (cond (not passes) (Some check) (find (λ c. not (c.passes fields)) (tests ++ last ∷ []))) ≡ None
        → (first_fault (tests ++ last ∷ []) fields ≡ None → last.passes fields ≡ true) → last.passes fields ≡ true
    by true is more = more is
    by false is more = cc is

-- the destinations
abbrev destinations_from : ℕ → ℕ → List (List ℕ) → List Fault
destinations_from at n texts = flat_map (λ field. unless_good (is_some (some_digits_of field.1)) at (Field field.0) BadDestination) (enumerate_from n texts)

bad-destinations : (at n : ℕ) (texts : List (List ℕ)) → list_all (λ text. is_some (some_digits_of text)) texts ≡ false → BeginWith at BadDestination (destinations_from at n texts)
bad-destinations at n [] is = cc is
bad-destinations at n (text ∷ texts) is = by (is_some (some_digits_of text)) is (bad-destinations at (n + 1) texts)
  where
    by : (good : Bool) → (good && list_all (λ t. is_some (some_digits_of t)) texts) ≡ false
        → (list_all (λ t. is_some (some_digits_of t)) texts ≡ false → BeginWith at BadDestination (destinations_from at (n + 1) texts))
        → BeginWith at BadDestination (unless_good good at (Field n) BadDestination ++ destinations_from at (n + 1) texts)
    by true is more = more is
    by false is more = (refl, refl)

good-destinations : (at n : ℕ) (texts : List (List ℕ)) → list_all (λ text. is_some (some_digits_of text)) texts ≡ true → destinations_from at n texts ≡ []
good-destinations at n [] is = refl
good-destinations at n (text ∷ texts) is = by (is_some (some_digits_of text)) is (good-destinations at (n + 1) texts)
  where
    by : (good : Bool) → (good && list_all (λ t. is_some (some_digits_of t)) texts) ≡ true
        → (list_all (λ t. is_some (some_digits_of t)) texts ≡ true → destinations_from at (n + 1) texts ≡ [])
        → unless_good good at (Field n) BadDestination ++ destinations_from at (n + 1) texts ≡ []
    by true is more = more is
    by false is more = cc is

-- the count and the destinations, once the fields before them are good
abbrev last_two : List Check
last_two = whole has_count FieldCount ∷ whole are_destinations BadDestination ∷ []

count-known : (fields : List (List ℕ)) → first_fault (take 8 checks) fields ≡ None → count_fits fields ≡ has_count fields
count-known fields is = rw (last-passes (take 7 checks) (field 6 verb_of BadAction) fields is) refl

bad-end : (at : ℕ) (fields : List (List ℕ)) (reason : Reason) → first_fault last_two fields ≡ Some reason
    → BeginWith at reason (unless_good (has_count fields) at Whole FieldCount ++ destination_faults at fields)
bad-end at fields reason is = by (has_count fields) (are_destinations fields) refl is
  where
    by : (count all : Bool) → are_destinations fields ≡ all
        → option_map (λ c. c.fault) (cond (not count) (Some (whole has_count FieldCount)) (cond (not all) (Some (whole are_destinations BadDestination)) None)) ≡ Some reason
        → BeginWith at reason (unless_good count at Whole FieldCount ++ destination_faults at fields)
    by false all are found = (refl, cc found)
    by true true are found = cc found
    by true false are found =
        let same : BadDestination ≡ reason = cc found in
        rw (← same) (bad-destinations at 7 (drop 7 fields) are)

good-end : (at : ℕ) (fields : List (List ℕ)) → first_fault last_two fields ≡ None
    → unless_good (has_count fields) at Whole FieldCount ++ destination_faults at fields ≡ []
good-end at fields is = by (has_count fields) (are_destinations fields) refl is
  where
    by : (count all : Bool) → are_destinations fields ≡ all
        → option_map (λ c. c.fault) (cond (not count) (Some (whole has_count FieldCount)) (cond (not all) (Some (whole are_destinations BadDestination)) None)) ≡ None
        → unless_good count at Whole FieldCount ++ destination_faults at fields ≡ []
    by false all are found = cc found
    by true false are found = cc found
    by true true are found = good-destinations at 7 (drop 7 fields) are

-- what a record reads as tells its first fault
unless-err : (found : Option Reason) (written : NumberedRule) (reason : Reason) → unless found written ≡ Err reason → found ≡ Some reason
unless-err None written reason is = cc is
unless-err (Some other) written reason is = cc is

unless-ok : (found : Option Reason) (written numbered : NumberedRule) → unless found written ≡ Ok numbered → found ≡ None
unless-ok None written numbered is = refl
unless-ok (Some other) written numbered is = cc is

bad-rule : (at : ℕ) (fields : List (List ℕ)) (reason : Reason) → numbered_in fields ≡ Err reason → BeginWith at reason (rule_faults at fields)
bad-rule at fields reason is = by (first_fault (take 8 checks) fields) refl (sym (first-split (take 8 checks) last_two fields) ∙ unless-err (first_fault checks fields) (written_in fields) reason is)
  where
    by : (early : Option Reason) → first_fault (take 8 checks) fields ≡ early → or_else_fault early (first_fault last_two fields) ≡ Some reason
        → BeginWith at reason (rule_faults at fields)
    by (Some other) was same =
        let first : first_fault (take 8 checks) fields ≡ Some reason = was ∙ same in
        begin-more at reason (faults_by at fields rule_parts (take 8 checks)) (unless_good (count_fits fields) at Whole FieldCount ++ destination_faults at fields) (first-by at fields rule_parts (take 8 checks) reason refl first)
    by None was same =
        subst (λ front. BeginWith at reason (front ++ (unless_good (count_fits fields) at Whole FieldCount ++ destination_faults at fields))) (sym (none-by at fields rule_parts (take 8 checks) was))
        (subst (λ fits. BeginWith at reason (unless_good fits at Whole FieldCount ++ destination_faults at fields)) (sym (count-known fields was)) (bad-end at fields reason same))

good-rule : (at : ℕ) (fields : List (List ℕ)) (numbered : NumberedRule) → numbered_in fields ≡ Ok numbered → rule_faults at fields ≡ []
good-rule at fields numbered is = by (first_fault (take 8 checks) fields) refl (sym (first-split (take 8 checks) last_two fields) ∙ unless-ok (first_fault checks fields) (written_in fields) numbered is)
  where
    by : (early : Option Reason) → first_fault (take 8 checks) fields ≡ early → or_else_fault early (first_fault last_two fields) ≡ None
        → rule_faults at fields ≡ []
    by (Some other) was same = cc same
    by None was same =
        ap (λ front. front ++ (unless_good (count_fits fields) at Whole FieldCount ++ destination_faults at fields)) (none-by at fields rule_parts (take 8 checks) was)
        ∙ (ap (λ fits. unless_good fits at Whole FieldCount ++ destination_faults at fields) (count-known fields was) ∙ good-end at fields same)

-- a closed day
bad-closed : (at : ℕ) (fields : List (List ℕ)) (reason : Reason) → closed_in fields ≡ Err reason → BeginWith at reason (closed_faults at fields)
bad-closed at [] reason is = (refl, cc is)
bad-closed at (name ∷ []) reason is = (refl, cc is)
bad-closed at (name ∷ number ∷ []) reason is = (refl, cc is)
bad-closed at (name ∷ number ∷ date ∷ more ∷ rest) reason is = (refl, cc is)
bad-closed at (name ∷ number ∷ date ∷ []) reason is = by (some_digits_of number) (date_of date) is
  where
    by : (n : Option (List ℕ)) (d : Option ℤ) → closed_from n d ≡ Err reason
        → BeginWith at reason (unless_good (is_some n) at (Field 1) BadClosed ++ unless_good (is_some d) at (Field 2) BadClosed)
    by None d is = (refl, cc is)
    by (Some n) None is = (refl, cc is)
    by (Some n) (Some d) is = cc is

good-closed : (at : ℕ) (fields : List (List ℕ)) (day : ClosedDay) → closed_in fields ≡ Ok day → closed_faults at fields ≡ []
good-closed at [] day is = cc is
good-closed at (name ∷ []) day is = cc is
good-closed at (name ∷ number ∷ []) day is = cc is
good-closed at (name ∷ number ∷ date ∷ more ∷ rest) day is = cc is
good-closed at (name ∷ number ∷ date ∷ []) day is = by (some_digits_of number) (date_of date) is
  where
    by : (n : Option (List ℕ)) (d : Option ℤ) → closed_from n d ≡ Ok day
        → unless_good (is_some n) at (Field 1) BadClosed ++ unless_good (is_some d) at (Field 2) BadClosed ≡ []
    by None d is = cc is
    by (Some n) None is = cc is
    by (Some n) (Some d) is = refl

-- a record after the head
as_rule-err : (read : Result NumberedRule Reason) (reason : Reason) → and_then read (λ numbered. Ok (item.Rule numbered)) ≡ Err reason → read ≡ Err reason
as_rule-err (Ok numbered) reason is = cc is
as_rule-err (Err other) reason is = cc is

as_rule-ok : (read : Result NumberedRule Reason) (one : Item) → and_then read (λ numbered. Ok (item.Rule numbered)) ≡ Ok one → (numbered : NumberedRule) × (read ≡ Ok numbered)
as_rule-ok (Ok numbered) one is = (numbered, refl)
as_rule-ok (Err other) one is = cc is

as_closed-err : (read : Result ClosedDay Reason) (reason : Reason) → and_then read (λ day. Ok (item.Closed day)) ≡ Err reason → read ≡ Err reason
as_closed-err (Ok day) reason is = cc is
as_closed-err (Err other) reason is = cc is

as_closed-ok : (read : Result ClosedDay Reason) (one : Item) → and_then read (λ day. Ok (item.Closed day)) ≡ Ok one → (day : ClosedDay) × (read ≡ Ok day)
as_closed-ok (Ok day) one is = (day, refl)
as_closed-ok (Err other) one is = cc is

bad-item : (version : Version) (at : ℕ) (fields : List (List ℕ)) (reason : Reason) → item_in version fields ≡ Err reason → BeginWith at reason (item_faults version at fields)
bad-item One at fields reason is = bad-rule at fields reason (as_rule-err (numbered_in fields) reason is)
bad-item Two at fields reason is = by (begins_with (codes "closed") fields) is
  where
    by : (closed : Bool) → (if closed then as_closed fields else as_rule fields) ≡ Err reason
        → BeginWith at reason (if closed then closed_faults at fields else rule_faults at fields)
    by true is = bad-closed at fields reason (as_closed-err (closed_in fields) reason is)
    by false is = bad-rule at fields reason (as_rule-err (numbered_in fields) reason is)

good-item : (version : Version) (at : ℕ) (fields : List (List ℕ)) (one : Item) → item_in version fields ≡ Ok one → item_faults version at fields ≡ []
good-item One at fields one is =
    let (numbered, read) = as_rule-ok (numbered_in fields) one is in
    good-rule at fields numbered read
good-item Two at fields one is = by (begins_with (codes "closed") fields) is
  where
    by : (closed : Bool) → (if closed then as_closed fields else as_rule fields) ≡ Ok one
        → (if closed then closed_faults at fields else rule_faults at fields) ≡ []
    by true is =
        let (day, read) = as_closed-ok (closed_in fields) one is in
        good-closed at fields day read
    by false is =
        let (numbered, read) = as_rule-ok (numbered_in fields) one is in
        good-rule at fields numbered read

-- the records after the head
good-items : (version : Version) (at : ℕ) (rows : List (List (List ℕ))) (items : List Item) → map (item_in version) rows ≡ map Ok items → items_faults version at rows ≡ []
good-items version at [] items read = refl
good-items version at (row ∷ rows) [] read = cc read
good-items version at (row ∷ rows) (one ∷ items) read =
    let here : item_in version row ≡ Ok one = cc read in
    let rest : map (item_in version) rows ≡ map Ok items = cc read in
    ap (λ front. front ++ items_faults version (at + 1) rows) (good-item version at row one here) ∙ good-items version (at + 1) rows items rest

bad-items : (version : Version) (at place : ℕ) (before : List (List (List ℕ))) (items : List Item) (fields : List (List ℕ)) (after : List (List (List ℕ))) (reason : Reason)
    → map (item_in version) before ≡ map Ok items → item_in version fields ≡ Err reason → place ≡ at + length before
    → BeginWith place reason (items_faults version at (before ++ fields ∷ after))
bad-items version at place [] items fields after reason read is same =
    let here : place ≡ at = omega arith in
    rw here (begin-more at reason (item_faults version at fields) (items_faults version (at + 1) after) (bad-item version at fields reason is))
bad-items version at place (row ∷ before) [] fields after reason read is same = cc read
bad-items version at place (row ∷ before) (one ∷ items) fields after reason read is same =
    let here : item_in version row ≡ Ok one = cc read in
    let rest : map (item_in version) before ≡ map Ok items = cc read in
    subst (λ front. BeginWith place reason (front ++ items_faults version (at + 1) (before ++ fields ∷ after))) (sym (good-item version at row one here))
    (bad-items version (at + 1) place before items fields after reason rest is (omega arith))

-- the head
bad-head : (at : ℕ) (fields : List (List ℕ)) → head_of fields ≡ None → BeginWith at BadHead (head_faults at fields)
bad-head at [] is = (refl, refl)
bad-head at (name ∷ []) is = (refl, refl)
bad-head at (name ∷ key ∷ []) is = (refl, refl)
bad-head at (name ∷ key ∷ offset ∷ more ∷ rest) is = (refl, refl)
bad-head at (name ∷ key ∷ offset ∷ []) is = by (bytes_eq name (codes "key")) (number_up_to 2147483647 key) (offset_of offset) is
  where
    by : (same : Bool) (k : Option ℕ) (o : Option ℤ) → (if same then head_from k o else None) ≡ None
        → BeginWith at BadHead (unless_good same at (Field 0) BadHead ++ (unless_good (is_some k) at (Field 1) BadHead ++ unless_good (is_some o) at (Field 2) BadHead))
    by false k o is = (refl, refl)
    by true None o is = (refl, refl)
    by true (Some k) None is = (refl, refl)
    by true (Some k) (Some o) is = cc is

good-head : (at : ℕ) (fields : List (List ℕ)) (head : Head) → head_of fields ≡ Some head → head_faults at fields ≡ []
good-head at [] head is = cc is
good-head at (name ∷ []) head is = cc is
good-head at (name ∷ key ∷ []) head is = cc is
good-head at (name ∷ key ∷ offset ∷ more ∷ rest) head is = cc is
good-head at (name ∷ key ∷ offset ∷ []) head is = by (bytes_eq name (codes "key")) (number_up_to 2147483647 key) (offset_of offset) is
  where
    by : (same : Bool) (k : Option ℕ) (o : Option ℤ) → (if same then head_from k o else None) ≡ Some head
        → unless_good same at (Field 0) BadHead ++ (unless_good (is_some k) at (Field 1) BadHead ++ unless_good (is_some o) at (Field 2) BadHead) ≡ []
    by false k o is = cc is
    by true None o is = cc is
    by true (Some k) None is = cc is
    by true (Some k) (Some o) is = refl

-- a record that is refused for its own fault
refused-alone : (items : List Item) (read : Result Item Reason) (reason : Reason) → Refuses items read reason → (reason ≡ TooMany → ⊥) → read ≡ Err reason
refused-alone items (Err fault) reason is other = ap Err (sym is)
refused-alone items (Ok (item.Rule numbered)) reason is other = absurd (other is.0)
refused-alone items (Ok (item.Closed day)) reason is other = absurd (other is.0)

first-headed : (version : Version) (others : ℕ) (rows : List (List (List ℕ))) (at : ℕ) (reason : Reason) → FaultHeaded version others rows at reason → (reason ≡ TooMany → ⊥)
    → BeginWith at reason (headed_faults version others rows)
first-headed version others [] at reason is other = (sym is.0, sym is.1)
first-headed version others (first ∷ rows) at reason is other = by (head_of first) refl is
  where
    by : (head : Option Head) → head_of first ≡ head → FaultUnder version others head rows at reason → BeginWith at reason (headed_faults version others (first ∷ rows))
    by None was fault = rw (fault.0, fault.1) (begin-more (others + 1) BadHead (head_faults (others + 1) first) (items_faults version (others + 2) rows) (bad-head (others + 1) first was))
    by (Some head) was (before, fields, after, items, cut) =
        let place : at ≡ (others + 2) + length before = omega (arith, cut.place) in
        let alone = refused-alone items (item_in version fields) reason cut.refused other in
        subst (λ front. BeginWith at reason (front ++ items_faults version (others + 2) rows)) (sym (good-head (others + 1) first head was))
        (subst (λ them. BeginWith at reason (items_faults version (others + 2) them)) (sym cut.split)
        (bad-items version (others + 2) at before items fields after reason cut.are_items.read alone place))

-- the faults of a file begin with its first one, unless that is one too many
pub first-of-own : (rows : List (List (List ℕ))) (at : ℕ) (reason : Reason) → FirstFault rows at reason → (reason ≡ TooMany → ⊥) → BeginWith at reason (own_faults rows)
first-of-own [] at reason is other = first-headed One 0 [] at reason is other
first-of-own (first ∷ rows) at reason is other = by (version_of first) is
  where
    by : (version : Option Version) → FaultStarted (start_by version first rows) at reason → BeginWith at reason (started_faults (start_by version first rows) (first ∷ rows))
    by None fault = (sym fault.0, sym fault.1)
    by (Some One) fault = first-headed One 0 (first ∷ rows) at reason fault other
    by (Some Two) fault = first-headed Two 1 rows at reason fault other

-- a file has none
none-headed : (version : Version) (others : ℕ) (rows : List (List (List ℕ))) (file : File) → IsHeaded version rows file → headed_faults version others rows ≡ []
none-headed version others [] file is = absurd is
none-headed version others (first ∷ rows) file is =
    ap (λ front. front ++ items_faults version (others + 2) rows) (good-head (others + 1) first (record { key = file.key; offset = file.offset }) is.0)
    ∙ good-items version (others + 2) rows file.items is.1.read

pub none-of-file : (rows : List (List (List ℕ))) (file : File) → IsFile rows file → own_faults rows ≡ []
none-of-file [] file is = absurd is
none-of-file (first ∷ rows) file is = by (version_of first) is
  where
    by : (version : Option Version) → IsStarted (start_by version first rows) file → started_faults (start_by version first rows) (first ∷ rows) ≡ []
    by None is = absurd is
    by (Some One) is = none-headed One 0 (first ∷ rows) file is
    by (Some Two) is = none-headed Two 1 rows file is

-- what `Table::read` says of records
pub record Said (rows : List (List (List ℕ))) (answer : Result Contents RecordsFault) : Type 0 where
  pub reads : Reads answer rows
  pub file : (file : File) → IsFile rows file → MatchResult answer (λ table. IsTable file table) (λ fault. fault ≡ Memory)
  pub fault : (at : ℕ) (reason : Reason) → FirstFault rows at reason → IsErrAnd answer (λ fault. (fault ≡ Record at reason) ⊎ (fault ≡ Memory))

-- a reason is that of one too many, or adds no fault
many-or-not : (reason : Reason) → (reason ≡ TooMany) ⊎ ((reason ≡ TooMany → ⊥) × ((at : ℕ) → limit_fault at reason ≡ []))
many-or-not BadVersion = inr ((λ e. cc e), (λ at. refl))
many-or-not BadHead = inr ((λ e. cc e), (λ at. refl))
many-or-not FieldCount = inr ((λ e. cc e), (λ at. refl))
many-or-not BadNumber = inr ((λ e. cc e), (λ at. refl))
many-or-not BadPrefix = inr ((λ e. cc e), (λ at. refl))
many-or-not BadDays = inr ((λ e. cc e), (λ at. refl))
many-or-not BadTime = inr ((λ e. cc e), (λ at. refl))
many-or-not BadWeight = inr ((λ e. cc e), (λ at. refl))
many-or-not BadAction = inr ((λ e. cc e), (λ at. refl))
many-or-not BadDestination = inr ((λ e. cc e), (λ at. refl))
many-or-not BadClosed = inr ((λ e. cc e), (λ at. refl))
many-or-not TooMany = inl refl

-- a first fault is the one that was said
same-fault : (rows : List (List (List ℕ))) (at other : ℕ) (reason why : Reason) → Said rows (Err (Record at reason)) → FirstFault rows other why
    → Record other why ≡ Record at reason
same-fault rows at other reason why said first = elim (said.fault other why first) [
  | inl same ↦ sym same
  | inr memory ↦ cc memory
]

-- so what was found is all faults
pub found-all : (rows : List (List (List ℕ))) (answer : Result Contents RecordsFault) (faults : List Fault) → Said rows answer → AreFound answer rows faults → AreFaults rows faults
found-all rows (Ok contents) faults said found =
    let (file, is, table, first) = said.reads in
    inr ((λ at one. said.fault at TooMany one), found ∙ sym (none-of-file rows file is))
found-all rows (Err (Record at reason)) faults said found = elim (many-or-not reason) [
  | inl many ↦ inl (at, rw many at said.reads, rw many at found)
  | inr other ↦ inr ((λ place one. other.0 (is-many place one)), found ∙ ap (λ front. front ++ own_faults rows) (other.1 at))
]
  where
    is-many : (place : ℕ) → FirstFault rows place TooMany → reason ≡ TooMany
    is-many place one =
        let same = same-fault rows at place reason TooMany said one in
        cc same
found-all rows (Err Memory) faults said found = absurd found

-- which begin with the first
pub found-first : (rows : List (List (List ℕ))) (answer : Result Contents RecordsFault) (faults : List Fault) → Said rows answer → AreFound answer rows faults
    → (at : ℕ) (reason : Reason) → FirstFault rows at reason → BeginWith at reason faults
found-first rows (Ok contents) faults said found at reason first = absurd (said.fault at reason first)
found-first rows (Err (Record other why)) faults said found at reason first =
    let same = same-fault rows other at why reason said first in
    let at_is : at ≡ other = cc same in
    let reason_is : reason ≡ why = cc same in
    elim (many-or-not reason) [
      | inl many ↦
          let why_is : why ≡ TooMany = cc (many, reason_is) in
          rw (found, why_is, many) (sym at_is, refl)
      | inr plain ↦
          let none : limit_fault other why ≡ [] = rw reason_is at (plain.1 other) in
          rw (found, none) (first-of-own rows at reason first plain.0)
    ]
found-first rows (Err Memory) faults said found at reason first = absurd found

-- and are none of a file
pub found-none : (rows : List (List (List ℕ))) (answer : Result Contents RecordsFault) (faults : List Fault) → Said rows answer → AreFound answer rows faults
    → (file : File) → IsFile rows file → faults ≡ []
found-none rows (Ok contents) faults said found file is = found
found-none rows (Err (Record at reason)) faults said found file is = cc (said.file file is)
found-none rows (Err Memory) faults said found file is = absurd found
