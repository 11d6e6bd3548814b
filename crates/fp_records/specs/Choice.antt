-- Which rule of a number a call gets. On a day on which the number is closed no rule fits. Of the rules that fit the
-- call those of the longest prefix are kept, in the file's order, and the call's draw falls into the share of one.
use Rattle.std.specs.Prelude.{ℕ, ◌+◌, ◌-◌, ◌%◌, ℤ, max, List, [], Bool, false, ◌&&◌, ◌==◌, Option, Some, None, filter, find, fold, get_or, length, nat_lt, option_map, sum_by, nat_eq, take, pos, neg_ℤ, ◌≤ℤ◌, ◌≤◌, if◌then◌else◌}
use Rattle.std.specs.List.{enumerate_from, list_any, starts_with}
use Rattle.std.specs.Ordering.{int_eq}
use Rattle.std.specs.Borrow.{Bor}
use Rattle.fp_digits.specs.declared.number.Number.{Number}
use Rattle.fp_records.specs.Calendar.{day_of, local_minutes, minute_of_day, weekday_of}
use Rattle.fp_records.specs.Window.{holds_minute}
use Rattle.fp_records.specs.declared.rule.Rule.{Rule}

-- what a record says of its number: the minutes that local time is east of UTC, the rules in the file's order, and the
-- numbers of the days on which it is closed
pub record Rules : Type 0 where
  pub offset : ℤ
  pub rules : List Rule
  pub closed : List ℤ

-- what each record keeps: an offset from 720 minutes west to 840 east, and 1 to 1,000 rules
pub record IsRules (record_of : Rules) : Type 0 where
  pub west : neg_ℤ (pos 720) ≤ℤ record_of.offset
  pub east : record_of.offset ≤ℤ pos 840
  pub some : 1 ≤ length record_of.rules
  pub most : length record_of.rules ≤ 1000

-- the digits of a calling number, none where there is none
abbrev pub calling_digits : Option (Bor Number) → List ℕ
calling_digits None = []
calling_digits (Some number) = number.now.digits

-- whether a set of weekdays has a weekday, 1 for Monday
abbrev pub has_day : List Bool → ℕ → Bool
has_day days weekday = get_or days (weekday - 1) false

-- whether a rule fits a call: its prefix begins the calling digits, its days have the weekday and its window holds
-- the minute
abbrev pub fits : List ℕ → ℕ → ℕ → Rule → Bool
fits calling weekday minute rule =
    starts_with nat_eq calling rule.prefix && (has_day rule.days weekday && holds_minute rule.window minute)

-- the length of the longest prefix
abbrev pub longest_prefix : List Rule → ℕ
longest_prefix rules = fold (λ longest rule. max longest (length rule.prefix)) 0 rules

-- the rules with a prefix of this length
abbrev pub of_length : ℕ → List Rule → List Rule
of_length longest rules = filter (λ rule. length rule.prefix == longest) rules

-- the rules of the longest prefix
abbrev pub most_exact : List Rule → List Rule
most_exact rules = of_length (longest_prefix rules) rules

-- the sum of the weights
abbrev pub total_weight : List Rule → ℕ
total_weight rules = sum_by (λ rule. rule.weight) rules

-- the rule at the least place where the rules up to it, itself among them, weigh more than the draw
abbrev pub rule_at_draw : ℕ → List Rule → Option Rule
rule_at_draw draw rules =
    option_map (λ at. at.1) (find (λ at. nat_lt draw (total_weight (take (at.0 + 1) rules))) (enumerate_from 0 rules))

-- the rule whose share a call's birth falls into
abbrev pub by_share : ℕ → List Rule → Option Rule
by_share birth rules = rule_at_draw (birth % total_weight rules) rules

-- whether the number is closed on a day
abbrev pub is_closed_on : ℤ → List ℤ → Bool
is_closed_on day closed = list_any (int_eq day) closed

-- the rules that fit a call at these local minutes
abbrev pub fitting : List ℕ → ℤ → Rules → List Rule
fitting calling minutes record_of =
    if is_closed_on (day_of minutes) record_of.closed then []
    else filter (fits calling (weekday_of minutes) (minute_of_day minutes)) record_of.rules

-- the rule of a record for a call: the calling digits, none where there is no calling number, the moment in
-- milliseconds and the birth
abbrev pub choice : Rules → List ℕ → ℕ → ℕ → Option Rule
choice record_of calling moment birth =
    by_share birth (most_exact (fitting calling (local_minutes moment record_of.offset) record_of))
