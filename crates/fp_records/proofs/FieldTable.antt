-- Reading the fields of a record one after another comes to the first test that fails, or to the rule that is written.
use Rattle.std.proofs.Common.{◌≡◌, ◌≤◌, ◌+◌, ℕ, zero, suc, List, [], ◌∷◌, Bool, true, false, ◌&&◌, ◌==◌, nat_eq, nat_le, cond, Option, Some, None, Result, Ok, Err, drop, find, length, option_map, if◌then◌else◌, refl, sym, ap, ◌∙◌, arith}
use Rattle.std.specs.Prelude.{is_some, not, unwrap_or}
use Rattle.std.proofs.lemmas.Bool.Decides.{nat_tests}
use Rattle.std.proofs.lemmas.List.{drop_all, length-drop}
use Rattle.csv.specs.Records.{field_at}
use Rattle.fp_records.specs.Digits.{digits_of, some_digits_of}
use Rattle.fp_records.specs.Days.{days_of}
use Rattle.fp_records.specs.Fields.{Check, action_with, are_destinations, checks, differ, field, first_fault, has_count, has_form, numbered_in, read_at, times_differ, unless, verb_of, weight_of, whole, written_in}
use Rattle.fp_records.specs.Steps.{action_by, action_in, and_then, days_in, field_by, numbered_by, or_else, prefix_in, verb_in, weight_in, window_in}
use Rattle.fp_records.specs.Window.{Period, period_between, time_of}
use Rattle.fp_records.specs.declared.action.Action.{Action}
use Rattle.fp_records.specs.declared.action.Action.TheVariants.{Route, Refuse, Pass}
use Rattle.fp_records.specs.declared.action.Destinations.TheVariants.{One, Two, Three, Four}
use Rattle.fp_records.specs.declared.fault.Reason.{Reason}
use Rattle.fp_records.specs.declared.fault.Reason.TheVariants.{FieldCount, BadNumber, BadPrefix, BadDays, BadTime, BadWeight, BadAction, BadDestination}
use Rattle.fp_records.specs.declared.fields.NumberedRule.{NumberedRule}
use Rattle.fp_records.specs.declared.fields.Verb.{Verb}
use Rattle.fp_records.specs.declared.fields.Verb.TheVariants as verb

-- the outcome of the tests that are left, test by test
abbrev outcome : List Check → List (List ℕ) → NumberedRule → Result NumberedRule Reason
outcome [] fields written = Ok written
outcome (check ∷ tests) fields written = if check.passes fields then outcome tests fields written else Err check.fault

outcome-is : (tests : List Check) (fields : List (List ℕ)) (written : NumberedRule) → unless (first_fault tests fields) written ≡ outcome tests fields written
outcome-is [] fields written = refl
outcome-is (check ∷ tests) fields written = by (check.passes fields) (outcome-is tests fields written)
  where
    by : (passes : Bool) → unless (first_fault tests fields) written ≡ outcome tests fields written
        → unless (option_map (λ c. c.fault) (cond (not passes) (Some check) (find (λ c. not (c.passes fields)) tests))) written ≡ (if passes then outcome tests fields written else Err check.fault)
    by true more = more
    by false more = refl

-- the tests after each field
abbrev after_6 : List Check
after_6 = whole has_count FieldCount ∷ whole are_destinations BadDestination ∷ []

abbrev after_5 : List Check
after_5 = field 6 verb_of BadAction ∷ after_6

abbrev after_times : List Check
after_times = field 5 weight_of BadWeight ∷ after_5

abbrev after_4 : List Check
after_4 = whole times_differ BadTime ∷ after_times

abbrev after_3 : List Check
after_3 = field 4 (time_of 1440) BadTime ∷ after_4

abbrev after_2 : List Check
after_2 = field 3 (time_of 1439) BadTime ∷ after_3

abbrev after_1 : List Check
after_1 = field 2 days_of BadDays ∷ after_2

abbrev after_0 : List Check
after_0 = field 1 digits_of BadPrefix ∷ after_1

-- after a field that is not there is none
none_later : (fields : List (List ℕ)) (place : ℕ) → field_at fields place ≡ None → field_at fields (suc place) ≡ None
unfolding field_at
none_later [] place none = refl
none_later (text ∷ fields) zero none = cc none
none_later (text ∷ fields) (suc place) none = none_later fields place none

-- a field that is not there has no fault of its own
passed_over : {A : Type 0} (place : ℕ) (form : List ℕ → Option A) (fault : Reason) (tests : List Check) (fields : List (List ℕ)) (written : NumberedRule)
    → field_at fields place ≡ None → outcome (field place form fault ∷ tests) fields written ≡ outcome tests fields written
passed_over place form fault tests fields written none = rw none refl

-- so a record that lacks one has a fault of the count
lacks_6 : (fields : List (List ℕ)) (written : NumberedRule) → field_at fields 6 ≡ None → outcome after_6 fields written ≡ Err FieldCount
lacks_6 fields written none = rw none refl

lacks_5 : (fields : List (List ℕ)) (written : NumberedRule) → field_at fields 5 ≡ None → outcome after_5 fields written ≡ Err FieldCount
lacks_5 fields written none =
    let later = none_later fields 5 none in
    passed_over 6 verb_of BadAction after_6 fields written later ∙ lacks_6 fields written later

lacks_times : (fields : List (List ℕ)) (written : NumberedRule) → field_at fields 4 ≡ None → outcome after_times fields written ≡ Err FieldCount
lacks_times fields written none =
    let later = none_later fields 4 none in
    passed_over 5 weight_of BadWeight after_5 fields written later ∙ lacks_5 fields written later

lacks_4 : (fields : List (List ℕ)) (written : NumberedRule) → field_at fields 4 ≡ None → outcome after_4 fields written ≡ Err FieldCount
lacks_4 fields written none = rw none (by (read_at 3 (time_of 1439) fields))
  where
    by : (from : Option ℕ) → (if differ from None then outcome after_times fields written else Err BadTime) ≡ Err FieldCount
    by None = lacks_times fields written none
    by (Some from) = lacks_times fields written none

lacks_3 : (fields : List (List ℕ)) (written : NumberedRule) → field_at fields 3 ≡ None → outcome after_3 fields written ≡ Err FieldCount
lacks_3 fields written none =
    let later = none_later fields 3 none in
    passed_over 4 (time_of 1440) BadTime after_4 fields written later ∙ lacks_4 fields written later

lacks_2 : (fields : List (List ℕ)) (written : NumberedRule) → field_at fields 2 ≡ None → outcome after_2 fields written ≡ Err FieldCount
lacks_2 fields written none =
    let later = none_later fields 2 none in
    passed_over 3 (time_of 1439) BadTime after_3 fields written later ∙ lacks_3 fields written later

lacks_1 : (fields : List (List ℕ)) (written : NumberedRule) → field_at fields 1 ≡ None → outcome after_1 fields written ≡ Err FieldCount
lacks_1 fields written none =
    let later = none_later fields 1 none in
    passed_over 2 days_of BadDays after_2 fields written later ∙ lacks_2 fields written later

lacks_0 : (fields : List (List ℕ)) (written : NumberedRule) → field_at fields 0 ≡ None → outcome after_0 fields written ≡ Err FieldCount
lacks_0 fields written none =
    let later = none_later fields 0 none in
    passed_over 1 digits_of BadPrefix after_1 fields written later ∙ lacks_1 fields written later

-- one field is read, and then what is after it
step : {A : Type 0} (place : ℕ) (form : List ℕ → Option A) (fault : Reason) (tests : List Check) (fields : List (List ℕ)) (written : NumberedRule) (next : A → Result NumberedRule Reason)
    → (field_at fields place ≡ None → outcome tests fields written ≡ Err FieldCount)
    → ((value : A) → read_at place form fields ≡ Some value → next value ≡ outcome tests fields written)
    → and_then (field_by form fault (field_at fields place)) next ≡ outcome (field place form fault ∷ tests) fields written
step {A} place form fault tests fields written next lacks more = by (field_at fields place) refl
  where
    read : (text : List ℕ) → field_at fields place ≡ Some text → (value : Option A) → form text ≡ value
        → and_then (or_else value fault) next ≡ (if is_some value then outcome tests fields written else Err fault)
    read text is None was = refl
    read text is (Some value) was = more value (rw (is, was) refl)

    by : (there : Option (List ℕ)) → field_at fields place ≡ there
        → and_then (field_by form fault there) next ≡ (if has_form form there then outcome tests fields written else Err fault)
    by None is = sym (lacks is)
    by (Some text) is = read text is (form text) refl

-- tests of tests are tests in a row
and_then-and_then : {A B C : Type 0} (first : Result A Reason) (second : A → Result B Reason) (third : B → Result C Reason)
    → and_then (and_then first second) third ≡ and_then first (λ value. and_then (second value) third)
and_then-and_then (Ok value) second third = refl
and_then-and_then (Err reason) second third = refl

-- a field after the first ones
field_at-drop : (n : ℕ) (fields : List (List ℕ)) (place : ℕ) → field_at (drop n fields) place ≡ field_at fields (n + place)
unfolding field_at
field_at-drop zero fields place = ap (field_at fields) (let same : place ≡ 0 + place = omega arith in same)
field_at-drop (suc n) [] place = refl
field_at-drop (suc n) (text ∷ fields) place =
    field_at-drop n fields place ∙ ap (field_at (text ∷ fields)) (let same : suc (n + place) ≡ suc n + place = omega arith in same)

-- what is known of the fields that were read
record Found (fields : List (List ℕ)) (number prefix : List ℕ) (days : List Bool) (from to weight : ℕ) (word : Verb) : Type 0 where
  at_0 : read_at 0 some_digits_of fields ≡ Some number
  at_1 : read_at 1 digits_of fields ≡ Some prefix
  at_2 : read_at 2 days_of fields ≡ Some days
  at_3 : read_at 3 (time_of 1439) fields ≡ Some from
  at_4 : read_at 4 (time_of 1440) fields ≡ Some to
  at_5 : read_at 5 weight_of fields ≡ Some weight
  at_6 : read_at 6 verb_of fields ≡ Some word

-- the rule of these
abbrev made : List ℕ → List ℕ → List Bool → ℕ → ℕ → ℕ → Action → NumberedRule
made number prefix days from to weight action =
    record { number = number; rule = record { prefix = prefix; days = days; window = record { from = from; to = to }; weight = weight; action = action } }

made-written : (fields : List (List ℕ)) (number prefix : List ℕ) (days : List Bool) (from to weight : ℕ) (word : Verb) → Found fields number prefix days from to weight word
    → made number prefix days from to weight (action_with (Some word) (drop 7 fields)) ≡ written_in fields
made-written fields number prefix days from to weight word found =
    rw (found.at_0, found.at_1, found.at_2, found.at_3, found.at_4, found.at_5, found.at_6) refl

-- one to four destinations, each read or faulty
one : (a : Option (List ℕ)) (next : Action → Result NumberedRule Reason) (written : NumberedRule) → next (Route (One (unwrap_or a [] ∷ []))) ≡ Ok written
    → and_then (and_then (and_then (or_else a BadDestination) (λ x. Ok (One (x ∷ [])))) (λ all. Ok (Route all))) next ≡ (if is_some a && true then Ok written else Err BadDestination)
one None next written is = refl
one (Some x) next written is = is

two : (a b : Option (List ℕ)) (next : Action → Result NumberedRule Reason) (written : NumberedRule) → next (Route (Two (unwrap_or a [] ∷ unwrap_or b [] ∷ []))) ≡ Ok written
    → and_then (and_then (and_then (or_else a BadDestination) (λ x. and_then (or_else b BadDestination) (λ y. Ok (Two (x ∷ y ∷ []))))) (λ all. Ok (Route all))) next
    ≡ (if is_some a && (is_some b && true) then Ok written else Err BadDestination)
two None b next written is = refl
two (Some x) None next written is = refl
two (Some x) (Some y) next written is = is

three : (a b c : Option (List ℕ)) (next : Action → Result NumberedRule Reason) (written : NumberedRule) → next (Route (Three (unwrap_or a [] ∷ unwrap_or b [] ∷ unwrap_or c [] ∷ []))) ≡ Ok written
    → and_then (and_then (and_then (or_else a BadDestination) (λ x. and_then (or_else b BadDestination) (λ y. and_then (or_else c BadDestination) (λ z. Ok (Three (x ∷ y ∷ z ∷ [])))))) (λ all. Ok (Route all))) next
    ≡ (if is_some a && (is_some b && (is_some c && true)) then Ok written else Err BadDestination)
three None b c next written is = refl
three (Some x) None c next written is = refl
three (Some x) (Some y) None next written is = refl
three (Some x) (Some y) (Some z) next written is = is

four : (a b c d : Option (List ℕ)) (next : Action → Result NumberedRule Reason) (written : NumberedRule) → next (Route (Four (unwrap_or a [] ∷ unwrap_or b [] ∷ unwrap_or c [] ∷ unwrap_or d [] ∷ []))) ≡ Ok written
    → and_then (and_then (and_then (or_else a BadDestination) (λ x. and_then (or_else b BadDestination) (λ y. and_then (or_else c BadDestination) (λ z. and_then (or_else d BadDestination) (λ u. Ok (Four (x ∷ y ∷ z ∷ u ∷ []))))))) (λ all. Ok (Route all))) next
    ≡ (if is_some a && (is_some b && (is_some c && (is_some d && true))) then Ok written else Err BadDestination)
four None b c d next written is = refl
four (Some x) None c d next written is = refl
four (Some x) (Some y) None d next written is = refl
four (Some x) (Some y) (Some z) None next written is = refl
four (Some x) (Some y) (Some z) (Some u) next written is = is

-- the destinations after the action `route`
route-step : (fields rest : List (List ℕ)) (next : Action → Result NumberedRule Reason) (written : NumberedRule) → drop 7 fields ≡ rest → read_at 6 verb_of fields ≡ Some verb.Route
    → next (action_with (Some verb.Route) rest) ≡ Ok written → and_then (action_by verb.Route fields) next ≡ outcome after_6 fields written
unfolding field_at
route-step fields [] next written behind at_6 is =
    let size = rw behind at (length-drop 7 fields) in
    let n8 : nat_eq (length fields) 8 ≡ false = grind (arith, nat_tests, size) in
    let n9 : nat_eq (length fields) 9 ≡ false = grind (arith, nat_tests, size) in
    let n10 : nat_eq (length fields) 10 ≡ false = grind (arith, nat_tests, size) in
    let n11 : nat_eq (length fields) 11 ≡ false = grind (arith, nat_tests, size) in
    let few : nat_le 8 (length fields) ≡ false = grind (arith, nat_tests, size) in
    rw (at_6, n8, n9, n10, n11, few) refl
route-step fields (a ∷ []) next written behind at_6 is =
    let left = rw behind at (length-drop 7 fields) in
    let size : length fields ≡ 8 = omega (arith, left) in
    let at_7 = sym (rw behind at (field_at-drop 7 fields 0)) in
    rw (at_6, size, at_7, behind) (one (some_digits_of a) next written is)
route-step fields (a ∷ b ∷ []) next written behind at_6 is =
    let left = rw behind at (length-drop 7 fields) in
    let size : length fields ≡ 9 = omega (arith, left) in
    let at_7 = sym (rw behind at (field_at-drop 7 fields 0)) in
    let at_8 = sym (rw behind at (field_at-drop 7 fields 1)) in
    rw (at_6, size, at_7, at_8, behind) (two (some_digits_of a) (some_digits_of b) next written is)
route-step fields (a ∷ b ∷ c ∷ []) next written behind at_6 is =
    let left = rw behind at (length-drop 7 fields) in
    let size : length fields ≡ 10 = omega (arith, left) in
    let at_7 = sym (rw behind at (field_at-drop 7 fields 0)) in
    let at_8 = sym (rw behind at (field_at-drop 7 fields 1)) in
    let at_9 = sym (rw behind at (field_at-drop 7 fields 2)) in
    rw (at_6, size, at_7, at_8, at_9, behind) (three (some_digits_of a) (some_digits_of b) (some_digits_of c) next written is)
route-step fields (a ∷ b ∷ c ∷ d ∷ []) next written behind at_6 is =
    let left = rw behind at (length-drop 7 fields) in
    let size : length fields ≡ 11 = omega (arith, left) in
    let at_7 = sym (rw behind at (field_at-drop 7 fields 0)) in
    let at_8 = sym (rw behind at (field_at-drop 7 fields 1)) in
    let at_9 = sym (rw behind at (field_at-drop 7 fields 2)) in
    let at_10 = sym (rw behind at (field_at-drop 7 fields 3)) in
    rw (at_6, size, at_7, at_8, at_9, at_10, behind) (four (some_digits_of a) (some_digits_of b) (some_digits_of c) (some_digits_of d) next written is)
route-step fields (a ∷ b ∷ c ∷ d ∷ e ∷ more) next written behind at_6 is =
    let size = rw behind at (length-drop 7 fields) in
    let n8 : nat_eq (length fields) 8 ≡ false = grind (arith, nat_tests, size) in
    let n9 : nat_eq (length fields) 9 ≡ false = grind (arith, nat_tests, size) in
    let n10 : nat_eq (length fields) 10 ≡ false = grind (arith, nat_tests, size) in
    let n11 : nat_eq (length fields) 11 ≡ false = grind (arith, nat_tests, size) in
    let some : nat_le 8 (length fields) ≡ true = grind (arith, nat_tests, size) in
    let many : nat_le (length fields) 11 ≡ false = grind (arith, nat_tests, size) in
    rw (at_6, n8, n9, n10, n11, some, many) refl

-- the actions without destinations
none_behind : (fields : List (List ℕ)) → nat_eq (length fields) 7 ≡ true → are_destinations fields ≡ true
none_behind fields seven =
    let past : length fields ≤ 7 = grind (arith, nat_tests, seven) in
    rw (drop_all 7 fields past) refl

alone-step : (fields : List (List ℕ)) (action : Action) (next : Action → Result NumberedRule Reason) (written : NumberedRule) → next action ≡ Ok written
    → and_then (if nat_eq (length fields) 7 then Ok action else Err FieldCount) next ≡ (if nat_eq (length fields) 7 then (if are_destinations fields then Ok written else Err BadDestination) else Err FieldCount)
alone-step fields action next written is = by (nat_eq (length fields) 7) refl
  where
    by : (seven : Bool) → nat_eq (length fields) 7 ≡ seven
        → and_then (if seven then Ok action else Err FieldCount) next ≡ (if seven then (if are_destinations fields then Ok written else Err BadDestination) else Err FieldCount)
    by true seven = rw (none_behind fields seven) is
    by false seven = refl

-- the action, after the other fields
action-step : (fields : List (List ℕ)) (word : Verb) (next : Action → Result NumberedRule Reason) (written : NumberedRule) → read_at 6 verb_of fields ≡ Some word
    → next (action_with (Some word) (drop 7 fields)) ≡ Ok written → and_then (action_by word fields) next ≡ outcome after_6 fields written
action-step fields verb.Route next written at_6 is = route-step fields (drop 7 fields) next written refl at_6 is
action-step fields verb.Refuse next written at_6 is = rw at_6 (alone-step fields Refuse next written is)
action-step fields verb.Pass next written at_6 is = rw at_6 (alone-step fields Pass next written is)

-- two times that were read
times-step : (fields : List (List ℕ)) (from to : ℕ) (next : Period → Result NumberedRule Reason) (written : NumberedRule) → read_at 3 (time_of 1439) fields ≡ Some from → read_at 4 (time_of 1440) fields ≡ Some to
    → next (record { from = from; to = to }) ≡ outcome after_times fields written → and_then (or_else (period_between from to) BadTime) next ≡ outcome after_4 fields written
times-step fields from to next written at_3 at_4 is = rw (at_3, at_4) (by (from == to))
  where
    by : (same : Bool) → and_then (or_else (if same then None else Some (record { from = from; to = to })) BadTime) next ≡ (if not same then outcome after_times fields written else Err BadTime)
    by true = refl
    by false = is

-- what the steps come to
pub steps-table : (fields : List (List ℕ)) → numbered_by fields ≡ numbered_in fields
steps-table fields = all ∙ sym (outcome-is checks fields (written_in fields))
  where
    all : numbered_by fields ≡ outcome checks fields (written_in fields)
    all =
        step 0 some_digits_of BadNumber after_0 fields (written_in fields) _ (lacks_0 fields (written_in fields)) λ number at_0.
        and_then-and_then (prefix_in fields) _ _ ∙
        step 1 digits_of BadPrefix after_1 fields (written_in fields) _ (lacks_1 fields (written_in fields)) λ prefix at_1.
        and_then-and_then (days_in fields) _ _ ∙
        step 2 days_of BadDays after_2 fields (written_in fields) _ (lacks_2 fields (written_in fields)) λ days at_2.
        and_then-and_then (window_in fields) _ _ ∙
        (and_then-and_then (field_by (time_of 1439) BadTime (field_at fields 3)) _ _ ∙
        step 3 (time_of 1439) BadTime after_3 fields (written_in fields) _ (lacks_3 fields (written_in fields)) λ from at_3.
        and_then-and_then (field_by (time_of 1440) BadTime (field_at fields 4)) _ _ ∙
        step 4 (time_of 1440) BadTime after_4 fields (written_in fields) _ (lacks_4 fields (written_in fields)) λ to at_4.
        times-step fields from to _ (written_in fields) at_3 at_4
        (and_then-and_then (weight_in fields) _ _ ∙
        step 5 weight_of BadWeight after_5 fields (written_in fields) _ (lacks_5 fields (written_in fields)) λ weight at_5.
        and_then-and_then (action_in fields) _ _ ∙
        (and_then-and_then (verb_in fields) _ _ ∙
        step 6 verb_of BadAction after_6 fields (written_in fields) _ (lacks_6 fields (written_in fields)) λ word at_6.
        action-step fields word _ (written_in fields) at_6
        (ap Ok (made-written fields number prefix days from to weight word
        (record { at_0 = at_0; at_1 = at_1; at_2 = at_2; at_3 = at_3; at_4 = at_4; at_5 = at_5; at_6 = at_6 }))))))
