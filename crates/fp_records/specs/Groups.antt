-- The rules of a file by their numbers, while it is read.
use Rattle.std.specs.Prelude.{◌≡◌, ℕ, ℤ, ◌+◌, ◌≤◌, List, [], ◌∷◌, ◌++◌, Bool, true, ◌&&◌, Option, Some, None, bytes_eq, length, nat_lt, nat_le, if◌then◌else◌}
use Rattle.std.specs.List.{list_all}
use Rattle.std.specs.Option.{unwrap_or}
use Rattle.std.specs.List.Sorted.{IsStrictlySortedBy}
use Rattle.std.specs.Cmp.Lexicographic.{slice_cmp}
use Rattle.std.specs.Ordering.{nat_cmp}
use Rattle.std.specs.Map.{keys_of, lookup}
use Rattle.fp_records.specs.Choice.{Rules}
use Rattle.fp_records.specs.Digits.{is_decimal}
use Rattle.fp_records.specs.Closings.{at_number}
use Rattle.fp_records.specs.File.{rules_of}
use Rattle.fp_records.specs.declared.fields.NumberedRule.{NumberedRule}
use Rattle.fp_records.specs.declared.rule.Rule.{Rule}

-- how many rules there are, and the rules of each number
pub record Grouped : Type 0 where
  pub count : ℕ
  pub groups : List (List ℕ × List Rule)

-- as many rules as a number may have, and one at least
abbrev pub few : List Rule → Bool
few rules = nat_lt 0 (length rules) && nat_le (length rules) 1000

-- the rules of a number
abbrev pub group_of : List ℕ → Grouped → List Rule
group_of digits grouped = unwrap_or (lookup (bytes_eq digits) grouped.groups) []

-- the limits on a file, and the numbers' digits; each number has a rule, so those of one and one for each other number
-- are at most all rules
pub record IsGrouped (grouped : Grouped) : Type 0 where
  pub rules : grouped.count ≤ 100000
  pub numbers : length grouped.groups ≤ grouped.count
  pub others : (digits : List ℕ) → length (group_of digits grouped) + length grouped.groups ≤ grouped.count + 1
  pub of_number : list_all (λ group. few group.1) grouped.groups ≡ true
  pub decimal : list_all (λ group. is_decimal group.0) grouped.groups ≡ true

-- rules, where there are some
abbrev pub some_rules : List Rule → Option (List Rule)
some_rules [] = None
some_rules (rule ∷ rules) = Some (rule ∷ rules)

-- these are the rules before, by their numbers
pub record Groups (before : List NumberedRule) (grouped : Grouped) : Type 0 where
  pub count : grouped.count ≡ length before
  pub each : (digits : List ℕ) → lookup (bytes_eq digits) grouped.groups ≡ some_rules (rules_of digits before)
  pub once : IsStrictlySortedBy (slice_cmp nat_cmp) (keys_of grouped.groups)

-- there is room for a rule of this number
abbrev pub has_room : Grouped → List ℕ → Bool
has_room grouped digits = nat_lt grouped.count 100000 && nat_lt (length (group_of digits grouped)) 1000

-- the old groups with one more rule
pub record Adds (old : Grouped) (numbered : NumberedRule) (new : Grouped) : Type 0 where
  pub count : new.count ≡ old.count + 1
  pub each : (digits : List ℕ) → lookup (bytes_eq digits) new.groups
      ≡ (if bytes_eq digits numbered.number then Some (group_of numbered.number old ++ numbered.rule ∷ []) else lookup (bytes_eq digits) old.groups)
  pub once : IsStrictlySortedBy (slice_cmp nat_cmp) (keys_of new.groups)

-- the record of a number, with local time this number of minutes east of UTC and the closed days of each number
abbrev pub record_of_group : ℤ → List (List ℕ × List ℤ) → List ℕ × List Rule → List ℕ × Rules
record_of_group offset closed group = (group.0, record { offset = offset; rules = group.1; closed = at_number group.0 closed })
