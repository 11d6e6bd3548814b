-- The rule that the fields of a record are, or what is first wrong with them. A record has these fields, and after
-- them its destinations:
--
--     0 number   1 prefix   2 days   3 from   4 to   5 weight   6 action   7.. destinations
use Rattle.std.specs.Prelude.{ℕ, List, [], ◌∷◌, Bool, true, false, ◌&&◌, not, Option, Some, None, Result, Ok, Err, codes, drop, find, is_some, length, map, option_and_then, option_map, bytes_eq, nat_le, nat_lt, unwrap_or, ◌==◌, if◌then◌else◌}
use Rattle.std.specs.List.{list_all}
use Rattle.csv.specs.Records.{field_at}
use Rattle.fp_records.specs.Digits.{digits_of, some_digits_of}
use Rattle.fp_records.specs.Days.{days_of}
use Rattle.fp_records.specs.Number.{number_up_to}
use Rattle.fp_records.specs.Window.{time_of}
use Rattle.fp_records.specs.declared.action.Action.{Action}
use Rattle.fp_records.specs.declared.action.Action.TheVariants.{Route, Refuse, Pass}
use Rattle.fp_records.specs.declared.action.Destinations.{Destinations}
use Rattle.fp_records.specs.declared.action.Destinations.TheVariants.{One, Two, Three, Four}
use Rattle.fp_records.specs.declared.fault.Reason.{Reason}
use Rattle.fp_records.specs.declared.fault.Reason.TheVariants.{FieldCount, BadNumber, BadPrefix, BadDays, BadTime, BadWeight, BadAction, BadDestination}
use Rattle.fp_records.specs.declared.fields.NumberedRule.{NumberedRule}
use Rattle.fp_records.specs.declared.fields.Verb.{Verb}
use Rattle.fp_records.specs.declared.fields.Verb.TheVariants as verb

-- a weight, 1 to 1000
abbrev pub weight_at_least_one : Option ℕ → Option ℕ
weight_at_least_one None = None
weight_at_least_one (Some weight) = if nat_lt 0 weight then Some weight else None

abbrev pub weight_of : List ℕ → Option ℕ
weight_of text = weight_at_least_one (number_up_to 1000 text)

-- the word of an action
abbrev pub verb_of : List ℕ → Option Verb
verb_of text =
    if bytes_eq text (codes "route") then Some verb.Route
    else if bytes_eq text (codes "refuse") then Some verb.Refuse
    else if bytes_eq text (codes "pass") then Some verb.Pass
    else None

-- what the field at a place reads as, if it is there and has this form
abbrev pub read_at : {A : Type 0} → ℕ → (List ℕ → Option A) → List (List ℕ) → Option A
read_at place form fields = option_and_then form (field_at fields place)

-- a test of a record, and the fault where it fails
pub record Check : Type 0 where
  pub passes : List (List ℕ) → Bool
  pub fault : Reason

-- a field that is there has this form
abbrev pub has_form : {A : Type 0} → (List ℕ → Option A) → Option (List ℕ) → Bool
has_form form None = true
has_form form (Some text) = is_some (form text)

abbrev pub field : {A : Type 0} → ℕ → (List ℕ → Option A) → Reason → Check
field place form fault = record { passes = λ fields. has_form form (field_at fields place); fault = fault }

-- the whole record passes a test
abbrev pub whole : (List (List ℕ) → Bool) → Reason → Check
whole test fault = record { passes = test; fault = fault }

-- two times, where both are there, are not the same
abbrev pub differ : Option ℕ → Option ℕ → Bool
differ None to = true
differ (Some from) None = true
differ (Some from) (Some to) = not (from == to)

abbrev pub times_differ : List (List ℕ) → Bool
times_differ fields = differ (read_at 3 (time_of 1439) fields) (read_at 4 (time_of 1440) fields)

-- as many fields as an action takes: 7, and for `route` 1 to 4 destinations more
abbrev pub takes : Option Verb → ℕ → Bool
takes None count = false
takes (Some verb.Route) count = nat_le 8 count && nat_le count 11
takes (Some verb.Refuse) count = count == 7
takes (Some verb.Pass) count = count == 7

abbrev pub has_count : List (List ℕ) → Bool
has_count fields = takes (read_at 6 verb_of fields) (length fields)

-- the fields after the action are destinations
abbrev pub are_destinations : List (List ℕ) → Bool
are_destinations fields = list_all (λ text. is_some (some_digits_of text)) (drop 7 fields)

-- the tests of a record in their order: the fields that are there from left to right, their count, the destinations
abbrev pub checks : List Check
checks =
    field 0 some_digits_of BadNumber
    ∷ field 1 digits_of BadPrefix
    ∷ field 2 days_of BadDays
    ∷ field 3 (time_of 1439) BadTime
    ∷ field 4 (time_of 1440) BadTime
    ∷ whole times_differ BadTime
    ∷ field 5 weight_of BadWeight
    ∷ field 6 verb_of BadAction
    ∷ whole has_count FieldCount
    ∷ whole are_destinations BadDestination
    ∷ []

-- the fault of the first test that fails
abbrev pub first_fault : List Check → List (List ℕ) → Option Reason
first_fault tests fields = option_map (λ check. check.fault) (find (λ check. not (check.passes fields)) tests)

-- one to four destinations
abbrev pub destinations_from : List (List ℕ) → Destinations
destinations_from [] = One []
destinations_from (a ∷ []) = One (a ∷ [])
destinations_from (a ∷ b ∷ []) = Two (a ∷ b ∷ [])
destinations_from (a ∷ b ∷ c ∷ []) = Three (a ∷ b ∷ c ∷ [])
destinations_from (a ∷ b ∷ c ∷ d ∷ more) = Four (a ∷ b ∷ c ∷ d ∷ [])

abbrev pub action_with : Option Verb → List (List ℕ) → Action
action_with None texts = Pass
action_with (Some verb.Route) texts = Route (destinations_from (map (λ text. unwrap_or (some_digits_of text) []) texts))
action_with (Some verb.Refuse) texts = Refuse
action_with (Some verb.Pass) texts = Pass

-- the rule that fields write, each in its place, and the number that it is for
abbrev pub written_in : List (List ℕ) → NumberedRule
written_in fields = record {
  number = unwrap_or (read_at 0 some_digits_of fields) [];
  rule = record {
    prefix = unwrap_or (read_at 1 digits_of fields) [];
    days = unwrap_or (read_at 2 days_of fields) [];
    window = record { from = unwrap_or (read_at 3 (time_of 1439) fields) 0; to = unwrap_or (read_at 4 (time_of 1440) fields) 0 };
    weight = unwrap_or (read_at 5 weight_of fields) 0;
    action = action_with (read_at 6 verb_of fields) (drop 7 fields);
  };
}

-- what a record reads as: the rule that it writes where all tests pass, or the fault of the first that fails
abbrev pub unless : Option Reason → NumberedRule → Result NumberedRule Reason
unless None numbered = Ok numbered
unless (Some reason) numbered = Err reason

abbrev pub numbered_in : List (List ℕ) → Result NumberedRule Reason
numbered_in fields = unless (first_fault checks fields) (written_in fields)
