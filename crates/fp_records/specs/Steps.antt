-- What the functions that read a record's fields give, each field after the other. What they come to is the table of
-- `Fields`.
use Rattle.std.specs.Prelude.{ℕ, List, [], ◌∷◌, Bool, Option, Some, None, Result, Ok, Err, length, ◌==◌, if◌then◌else◌}
use Rattle.csv.specs.Records.{field_at}
use Rattle.fp_records.specs.Digits.{digits_of, some_digits_of}
use Rattle.fp_records.specs.Days.{days_of}
use Rattle.fp_records.specs.Fields.{verb_of, weight_of}
use Rattle.fp_records.specs.Window.{Period, period_between, time_of}
use Rattle.fp_records.specs.declared.action.Action.{Action}
use Rattle.fp_records.specs.declared.action.Action.TheVariants.{Route, Refuse, Pass}
use Rattle.fp_records.specs.declared.action.Destinations.{Destinations}
use Rattle.fp_records.specs.declared.action.Destinations.TheVariants.{One, Two, Three, Four}
use Rattle.fp_records.specs.declared.fault.Reason.{Reason}
use Rattle.fp_records.specs.declared.fault.Reason.TheVariants.{FieldCount, BadNumber, BadPrefix, BadDays, BadTime, BadWeight, BadAction, BadDestination}
use Rattle.fp_records.specs.declared.fields.NumberedRule.{NumberedRule}
use Rattle.fp_records.specs.declared.fields.Verb.{Verb}
use Rattle.fp_records.specs.declared.fields.Verb.TheVariants as verb
use Rattle.fp_records.specs.declared.rule.Rule.{Rule}

-- the next test is of what this one gave, and a fault ends them
abbrev pub and_then : {A B E : Type 0} → Result A E → (A → Result B E) → Result B E
and_then (Ok value) next = next value
and_then (Err reason) next = Err reason

-- a value, or else the reason why there is none
abbrev pub or_else : {A : Type 0} → Option A → Reason → Result A Reason
or_else (Some value) reason = Ok value
or_else None reason = Err reason

-- what a field is by its own test; a field that is not there is a fault of the count
abbrev pub field_by : {A : Type 0} → (List ℕ → Option A) → Reason → Option (List ℕ) → Result A Reason
field_by test reason None = Err FieldCount
field_by test reason (Some text) = or_else (test text) reason

abbrev pub number_in : List (List ℕ) → Result (List ℕ) Reason
number_in fields = field_by some_digits_of BadNumber (field_at fields 0)

abbrev pub prefix_in : List (List ℕ) → Result (List ℕ) Reason
prefix_in fields = field_by digits_of BadPrefix (field_at fields 1)

abbrev pub days_in : List (List ℕ) → Result (List Bool) Reason
days_in fields = field_by days_of BadDays (field_at fields 2)

abbrev pub window_in : List (List ℕ) → Result Period Reason
window_in fields =
    and_then (field_by (time_of 1439) BadTime (field_at fields 3))
    (λ from. and_then (field_by (time_of 1440) BadTime (field_at fields 4)) (λ to. or_else (period_between from to) BadTime))

abbrev pub weight_in : List (List ℕ) → Result ℕ Reason
weight_in fields = field_by weight_of BadWeight (field_at fields 5)

abbrev pub verb_in : List (List ℕ) → Result Verb Reason
verb_in fields = field_by verb_of BadAction (field_at fields 6)

abbrev pub destination_in : List (List ℕ) → ℕ → Result (List ℕ) Reason
destination_in fields place = field_by some_digits_of BadDestination (field_at fields place)

-- one to four destinations, after seven fields
abbrev pub one_in : List (List ℕ) → Result Destinations Reason
one_in fields = and_then (destination_in fields 7) (λ a. Ok (One (a ∷ [])))

abbrev pub two_in : List (List ℕ) → Result Destinations Reason
two_in fields = and_then (destination_in fields 7) (λ a. and_then (destination_in fields 8) (λ b. Ok (Two (a ∷ b ∷ []))))

abbrev pub three_in : List (List ℕ) → Result Destinations Reason
three_in fields =
    and_then (destination_in fields 7) (λ a. and_then (destination_in fields 8) (λ b.
    and_then (destination_in fields 9) (λ c. Ok (Three (a ∷ b ∷ c ∷ [])))))

abbrev pub four_in : List (List ℕ) → Result Destinations Reason
four_in fields =
    and_then (destination_in fields 7) (λ a. and_then (destination_in fields 8) (λ b.
    and_then (destination_in fields 9) (λ c. and_then (destination_in fields 10) (λ d. Ok (Four (a ∷ b ∷ c ∷ d ∷ []))))))

abbrev pub destinations_of : List (List ℕ) → Result Destinations Reason
destinations_of fields =
    if length fields == 8 then one_in fields
    else if length fields == 9 then two_in fields
    else if length fields == 10 then three_in fields
    else if length fields == 11 then four_in fields
    else Err FieldCount

-- an action without destinations
abbrev pub alone : List (List ℕ) → Action → Result Action Reason
alone fields action = if length fields == 7 then Ok action else Err FieldCount

abbrev pub action_by : Verb → List (List ℕ) → Result Action Reason
action_by verb.Route fields = and_then (destinations_of fields) (λ destinations. Ok (Route destinations))
action_by verb.Refuse fields = alone fields Refuse
action_by verb.Pass fields = alone fields Pass

abbrev pub action_in : List (List ℕ) → Result Action Reason
action_in fields = and_then (verb_in fields) (λ verb. action_by verb fields)

-- the rule of a record, and the number that it is for
abbrev pub rule_in : List (List ℕ) → Result Rule Reason
rule_in fields =
    and_then (prefix_in fields) (λ prefix. and_then (days_in fields) (λ days.
    and_then (window_in fields) (λ window. and_then (weight_in fields) (λ weight.
    and_then (action_in fields) (λ action.
    Ok (record { prefix = prefix; days = days; window = window; weight = weight; action = action }))))))

abbrev pub numbered_by : List (List ℕ) → Result NumberedRule Reason
numbered_by fields =
    and_then (number_in fields) (λ number. and_then (rule_in fields) (λ rule. Ok (record { number = number; rule = rule })))
