-- A rule whose fields are good, except perhaps one, is read exactly if this one is good.
use Rattle.std.proofs.Common.{◌≡◌, ◌≤◌, ℕ, ℤ, zero, suc, List, [], ◌∷◌, ◌++◌, Bool, true, false, ◌&&◌, ◌||◌, ◌==◌, ◌+◌, ◌*◌, cond, Option, Some, None, codes, find, length, nat_le, nat_lt, option_map, replicate, if◌then◌else◌, refl, ap, ◌∙◌, arith}
use Rattle.std.specs.Prelude.{IsSome, bytes_eq, is_none, is_some, not, slice_index}
use Rattle.std.specs.List.{list_all}
use Rattle.std.proofs.lemmas.Bool.Decides.{nat_tests}
use Rattle.std.proofs.lemmas.List.{length-replicate}
use Rattle.csv.specs.Records.{field_at}
use Rattle.fp_records.specs.Closed.{closed_from, closed_in}
use Rattle.fp_records.specs.Date.{date_of}
use Rattle.fp_records.specs.Days.{days_of}
use Rattle.fp_records.specs.Digits.{digits_of, some_digits_of}
use Rattle.fp_records.specs.Fields.{Check, checks, differ, first_fault, numbered_in, takes, unless, verb_of, weight_of, written_in}
use Rattle.fp_records.specs.Head.{head_from, head_of, offset_of}
use Rattle.fp_records.specs.Number.{number_up_to}
use Rattle.fp_records.specs.Window.{minute_at, time_of, two_digits}
use Rattle.fp_records.specs.declared.fields.NumberedRule.{NumberedRule}
use Rattle.fp_records.specs.declared.fields.Verb.{Verb}
use Rattle.fp_records.specs.declared.fields.Verb.TheVariants as verb
use Rattle.fp_lint.specs.Alone.{fault_in}

-- what `is_none` says
pub none-is : {A : Type 0} (found : Option A) (none : Bool) → is_some found ≡ not none → none ≡ is_none found
none-is None true is = refl
none-is None false is = cc is
none-is (Some value) true is = cc is
none-is (Some value) false is = refl

-- nothing is wrong with a record exactly if it passes each test
no-fault : (tests : List Check) (row : List (List ℕ)) (written : NumberedRule)
    → is_none (fault_in (unless (first_fault tests row) written)) ≡ list_all (λ check. check.passes row) tests
no-fault [] row written = refl
no-fault (check ∷ tests) row written = by (check.passes row) (no-fault tests row written)
  where
    by : (passes : Bool) → is_none (fault_in (unless (first_fault tests row) written)) ≡ list_all (λ c. c.passes row) tests
        → is_none (fault_in (unless (option_map (λ c. c.fault) (cond (not passes) (Some check) (find (λ c. not (c.passes row)) tests))) written))
        ≡ (passes && list_all (λ c. c.passes row) tests)
    by true more = more
    by false more = refl

read-if : (row : List (List ℕ)) → is_none (fault_in (numbered_in row)) ≡ list_all (λ check. check.passes row) checks
read-if row = no-fault checks row (written_in row)

and_true : (b : Bool) → (b && true) ≡ b
and_true true = refl
and_true false = refl

-- the fields of a rule without destinations
abbrev pub rule_with : List ℕ → List ℕ → List ℕ → List ℕ → List ℕ → List ℕ → List ℕ → List (List ℕ)
rule_with number prefix days from to weight action = number ∷ prefix ∷ days ∷ from ∷ to ∷ weight ∷ action ∷ []

pub number-form : (text : List ℕ)
    → is_none (fault_in (numbered_in (rule_with text [] (codes "1") (codes "00:00") (codes "24:00") (codes "1") (codes "pass")))) ≡ is_some (some_digits_of text)
unfolding field_at
number-form text = read-if (rule_with text [] (codes "1") (codes "00:00") (codes "24:00") (codes "1") (codes "pass")) ∙ and_true (is_some (some_digits_of text))

pub prefix-form : (text : List ℕ)
    → is_none (fault_in (numbered_in (rule_with (codes "1") text (codes "1") (codes "00:00") (codes "24:00") (codes "1") (codes "pass")))) ≡ is_some (digits_of text)
unfolding field_at
prefix-form text = read-if (rule_with (codes "1") text (codes "1") (codes "00:00") (codes "24:00") (codes "1") (codes "pass")) ∙ and_true (is_some (digits_of text))

pub days-form : (text : List ℕ)
    → is_none (fault_in (numbered_in (rule_with (codes "1") [] text (codes "00:00") (codes "24:00") (codes "1") (codes "pass")))) ≡ is_some (days_of text)
unfolding field_at
days-form text = read-if (rule_with (codes "1") [] text (codes "00:00") (codes "24:00") (codes "1") (codes "pass")) ∙ and_true (is_some (days_of text))

pub weight-form : (text : List ℕ)
    → is_none (fault_in (numbered_in (rule_with (codes "1") [] (codes "1") (codes "00:00") (codes "24:00") text (codes "pass")))) ≡ is_some (weight_of text)
unfolding field_at
weight-form text = read-if (rule_with (codes "1") [] (codes "1") (codes "00:00") (codes "24:00") text (codes "pass")) ∙ and_true (is_some (weight_of text))

pub destination-form : (text : List ℕ)
    → is_none (fault_in (numbered_in (rule_with (codes "1") [] (codes "1") (codes "00:00") (codes "24:00") (codes "1") (codes "route") ++ text ∷ []))) ≡ is_some (some_digits_of text)
unfolding field_at
destination-form text =
    read-if (rule_with (codes "1") [] (codes "1") (codes "00:00") (codes "24:00") (codes "1") (codes "route") ++ text ∷ [])
    ∙ (and_true (is_some (some_digits_of text) && true) ∙ and_true (is_some (some_digits_of text)))

-- a time of day is no later than the last one
minute-most : (last : ℕ) (hour minute : Option ℕ) (time : ℕ) → minute_at last hour minute ≡ Some time → time ≤ last
minute-most last None minute time is = cc is
minute-most last (Some hour) None time is = cc is
minute-most last (Some hour) (Some minute) time is = by (nat_lt minute 60) (nat_le (60 * hour + minute) last) refl is
  where
    by : (below early : Bool) → nat_le (60 * hour + minute) last ≡ early
        → (if below && early then Some (60 * hour + minute) else None) ≡ Some time → time ≤ last
    by true true was same =
        let at : 60 * hour + minute ≡ time = cc same in
        let low : 60 * hour + minute ≤ last = grind (arith, nat_tests, was) in
        rw at at low
    by true false was same = cc same
    by false early was same = cc same

time_of-most : (last : ℕ) (text : List ℕ) (time : ℕ) → time_of last text ≡ Some time → time ≤ last
time_of-most last text time is = by ((length text == 5) && (slice_index text 2 == 58)) is
  where
    by : (form : Bool) → (if form then minute_at last (two_digits (slice_index text 0) (slice_index text 1)) (two_digits (slice_index text 3) (slice_index text 4)) else None) ≡ Some time → time ≤ last
    by true is = minute-most last (two_digits (slice_index text 0) (slice_index text 1)) (two_digits (slice_index text 3) (slice_index text 4)) time is
    by false is = cc is

pub from-form : (text : List ℕ)
    → is_none (fault_in (numbered_in (rule_with (codes "1") [] (codes "1") text (codes "24:00") (codes "1") (codes "pass")))) ≡ is_some (time_of 1439 text)
unfolding field_at
from-form text = read-if (rule_with (codes "1") [] (codes "1") text (codes "24:00") (codes "1") (codes "pass")) ∙ by (time_of 1439 text) refl
  where
    by : (from : Option ℕ) → time_of 1439 text ≡ from → (is_some from && (differ from (Some 1440) && true)) ≡ is_some from
    by None is = refl
    by (Some from) is =
        let low = time_of-most 1439 text from is in
        let apart : (from == 1440) ≡ false = grind (arith, nat_tests, low) in
        rw apart refl

-- times of which one is none are not the same
pub differ_from-none : (read : Option ℕ) → differ read None ≡ true
differ_from-none None = refl
differ_from-none (Some from) = refl

or_both : (a b x y : Bool) → a ≡ x → b ≡ y → (a || b) ≡ (x || y)
or_both a b x y p q = rw (p, q) refl

pub to-form : (text : List ℕ)
    → (is_none (fault_in (numbered_in (rule_with (codes "1") [] (codes "1") (codes "00:00") text (codes "1") (codes "pass"))))
    || is_none (fault_in (numbered_in (rule_with (codes "1") [] (codes "1") (codes "00:01") text (codes "1") (codes "pass"))))) ≡ is_some (time_of 1440 text)
unfolding field_at
to-form text =
    or_both _ _ _ _ (read-if (rule_with (codes "1") [] (codes "1") (codes "00:00") text (codes "1") (codes "pass")))
    (read-if (rule_with (codes "1") [] (codes "1") (codes "00:01") text (codes "1") (codes "pass"))) ∙ by (time_of 1440 text)
  where
    by : (to : Option ℕ) → ((is_some to && (differ (Some 0) to && true)) || (is_some to && (differ (Some 1) to && true))) ≡ is_some to
    by None = refl
    by (Some zero) = refl
    by (Some (suc n)) =
        let apart : (0 == suc n) ≡ false = grind (arith, nat_tests) in
        rw apart refl

pub times-form : (from to : List ℕ) → IsSome (time_of 1439 from) → IsSome (time_of 1440 to)
    → is_none (fault_in (numbered_in (rule_with (codes "1") [] (codes "1") from to (codes "1") (codes "pass")))) ≡ differ (time_of 1439 from) (time_of 1440 to)
unfolding field_at
times-form from to is_from is_to =
    read-if (rule_with (codes "1") [] (codes "1") from to (codes "1") (codes "pass")) ∙ by (time_of 1439 from) (time_of 1440 to) is_from is_to
  where
    by : (a b : Option ℕ) → IsSome a → IsSome b → (is_some a && (is_some b && (differ a b && true))) ≡ differ a b
    by None b is_a is_b = cc is_a
    by (Some x) None is_a is_b = cc is_b
    by (Some x) (Some y) is_a is_b = and_true (not (x == y))

-- destinations of one digit are good
good-ones : (count : ℕ) → list_all (λ text. is_some (some_digits_of text)) (replicate count (codes "1")) ≡ true
good-ones zero = refl
good-ones (suc count) = good-ones count

-- a rule with so many destinations
abbrev count_row : List ℕ → ℕ → List (List ℕ)
count_row action count = rule_with (codes "1") [] (codes "1") (codes "00:00") (codes "24:00") (codes "1") action ++ replicate count (codes "1")

pub count-form : (action : List ℕ) (count : ℕ)
    → is_none (fault_in (numbered_in (rule_with (codes "1") [] (codes "1") (codes "00:00") (codes "24:00") (codes "1") action ++ replicate count (codes "1"))))
    ≡ takes (verb_of action) (7 + count)
unfolding field_at
count-form action count =
    read-if (count_row action count)
    ∙ (ap (λ size. is_some (verb_of action) && (takes (verb_of action) size && (list_all (λ text. is_some (some_digits_of text)) (replicate count (codes "1")) && true))) size-is
    ∙ (ap (λ all. is_some (verb_of action) && (takes (verb_of action) (7 + count) && (all && true))) (good-ones count) ∙ by (verb_of action)))
  where
    size-is : length (count_row action count) ≡ 7 + count
    size-is = let size = length-replicate count (codes "1") in omega (arith, size)

    by : (verb_is : Option Verb) → (is_some verb_is && (takes verb_is (7 + count) && (true && true))) ≡ takes verb_is (7 + count)
    by None = refl
    by (Some word) = and_true (takes (Some word) (7 + count))

-- an action takes no destination or takes one
pub action-form : (read : Option Verb) → (takes read 7 || takes read 8) ≡ is_some read
action-form None = refl
action-form (Some verb.Route) = refl
action-form (Some verb.Refuse) = refl
action-form (Some verb.Pass) = refl

-- a closed day with a good date or a good number
closed_with : (number : Option (List ℕ)) (day : Option ℤ) → is_none (fault_in (closed_from number day)) ≡ (is_some number && is_some day)
closed_with None day = refl
closed_with (Some number) None = refl
closed_with (Some number) (Some day) = refl

pub closed_number-form : (text : List ℕ) → is_none (fault_in (closed_in (codes "closed" ∷ text ∷ codes "2000-01-01" ∷ []))) ≡ is_some (some_digits_of text)
closed_number-form text = closed_with (some_digits_of text) (date_of (codes "2000-01-01")) ∙ and_true (is_some (some_digits_of text))

pub closed_date-form : (text : List ℕ) → is_none (fault_in (closed_in (codes "closed" ∷ codes "1" ∷ text ∷ []))) ≡ is_some (date_of text)
closed_date-form text = closed_with (some_digits_of (codes "1")) (date_of text)

-- a head with one field that may be wrong
pub name-form : (text : List ℕ) → is_some (head_of (text ∷ codes "1" ∷ codes "0" ∷ [])) ≡ bytes_eq text (codes "key")
name-form text = by (bytes_eq text (codes "key"))
  where
    by : (same : Bool) → is_some (if same then head_from (number_up_to 2147483647 (codes "1")) (offset_of (codes "0")) else None) ≡ same
    by true = refl
    by false = refl

pub key-form : (text : List ℕ) → is_some (head_of (codes "key" ∷ text ∷ codes "0" ∷ [])) ≡ is_some (number_up_to 2147483647 text)
key-form text = by (number_up_to 2147483647 text)
  where
    by : (key : Option ℕ) → is_some (head_from key (offset_of (codes "0"))) ≡ is_some key
    by None = refl
    by (Some key) = refl

pub offset-form : (text : List ℕ) → is_some (head_of (codes "key" ∷ codes "1" ∷ text ∷ [])) ≡ is_some (offset_of text)
offset-form text = by (offset_of text)
  where
    by : (offset : Option ℤ) → is_some (head_from (number_up_to 2147483647 (codes "1")) offset) ≡ is_some offset
    by None = refl
    by (Some offset) = refl
