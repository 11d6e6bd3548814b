-- The rules of a number over a week in which it is not closed. A minute of the week is 0 for Monday 00:00 to 10,079 for
-- Sunday 23:59, in local time.
use Rattle.std.specs.Prelude.{◌≡◌, ℕ, ◌+◌, ◌/◌, ◌%◌, ◌<◌, zero, suc, List, [], Bool, true, false, ◌&&◌, not, get_or, length, map, if◌then◌else◌}
use Rattle.std.specs.List.{list_any}
use Rattle.fp_records.specs.Choice.{fits, has_day}
use Rattle.fp_records.specs.Same.{same_rule}
use Rattle.fp_records.specs.Window.{holds_minute}
use Rattle.fp_records.specs.declared.rule.Rule.{Rule}
use Rattle.fp_lint.specs.declared.week.WeekRule.{WeekRule}

-- the rule, with the days of its flags
abbrev pub rule_of : WeekRule → Rule
rule_of kept = record kept.rule { days = kept.days }

abbrev pub rules_of : List WeekRule → List Rule
rules_of rules = map rule_of rules

-- whether a rule holds at a minute of the week, for any caller
abbrev pub holds_at : Rule → ℕ → Bool
holds_at rule minute = has_day rule.days (minute / 1440 + 1) && holds_minute rule.window (minute % 1440)

-- whether no rule fits a call without a calling number at a minute of the week
abbrev pub is_bare : List Rule → ℕ → Bool
is_bare rules minute = not (list_any (fits [] (minute / 1440 + 1) (minute % 1440)) rules)

-- how many minutes of the first ones pass a test
unfoldable pub count_below : (ℕ → Bool) → ℕ → ℕ
count_below test zero = zero
count_below test (suc minute) = count_below test minute + (if test minute then 1 else 0)

-- this is the first minute of the week without a rule
pub record IsFirstBare (rules : List Rule) (first : ℕ) : Type 0 where
  pub within : first < 10080
  pub bare : is_bare rules first ≡ true
  pub before : (minute : ℕ) → minute < first → is_bare rules minute ≡ false

-- the number of minutes of the week without a rule, and the first of them
pub record IsGap (rules : List Rule) (minutes first : ℕ) : Type 0 where
  pub count : minutes ≡ count_below (is_bare rules) 10080
  pub first_is : IsFirstBare rules first

-- whether one of some rules is the same as this one
abbrev pub has_same : List WeekRule → WeekRule → Bool
has_same rules kept = list_any (λ rule. same_rule rule kept.rule) (map (λ other. other.rule) rules)

-- the rule at this place is the same
pub record IsSameAt (rules : List WeekRule) (kept : WeekRule) (place : ℕ) : Type 0 where
  pub within : place < length rules
  pub same : same_rule (get_or rules place kept).rule kept.rule ≡ true
