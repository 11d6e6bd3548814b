-- The rules by their numbers, rule by rule.
use Rattle.std.proofs.Common.{◌≡◌, ◌+◌, ◌<◌, ◌≤◌, ℕ, List, [], ◌∷◌, ◌++◌, Bool, true, false, ◌&&◌, Option, Some, None, nat_le, nat_lt, filter, is_some, length, map, if◌then◌else◌, refl, sym, ap, ◌∙◌, arith}
use Rattle.std.specs.Prelude.{bytes_eq}
use Rattle.std.specs.Cmp.Lexicographic.{slice_cmp}
use Rattle.std.specs.List.{list_all}
use Rattle.std.specs.List.Sorted.{IsStrictlySortedBy}
use Rattle.std.specs.Map.{keys_of, lookup}
use Rattle.std.specs.Option.{unwrap_or}
use Rattle.std.specs.Ordering.{nat_cmp}
use Rattle.std.proofs.lemmas.Bool.Decides.{nat_tests}
use Rattle.std.proofs.lemmas.List.{append-nil, length-append, map-append}
use Rattle.std.proofs.lemmas.List.Elements.{filter-append}
use Rattle.fp_records.specs.Digits.{is_decimal}
use Rattle.fp_records.specs.File.{rules_of}
use Rattle.fp_records.specs.Groups.{Adds, Grouped, Groups, IsGrouped, few, group_of, has_room, some_rules}
use Rattle.fp_records.specs.Listed.{with_value}
use Rattle.fp_records.specs.declared.fields.NumberedRule.{NumberedRule}
use Rattle.fp_records.specs.declared.rule.Rule.{Rule}
use Rattle.fp_records.proofs.Entries.{length-insert_entry, list_all-insert_entry, lookup-insert_entry, same_digits}

-- the rules of a number with one more rule after the others
pub rules_of-more : (digits : List ℕ) (before : List NumberedRule) (numbered : NumberedRule)
    → rules_of digits (before ++ numbered ∷ []) ≡ (if bytes_eq digits numbered.number then rules_of digits before ++ numbered.rule ∷ [] else rules_of digits before)
rules_of-more digits before numbered =
    rw (filter-append (λ n. bytes_eq digits n.number) before (numbered ∷ [])) (by (bytes_eq digits numbered.number))
  where
    by : (here : Bool) → map (λ n. n.rule) (filter (λ n. bytes_eq digits n.number) before ++ (if here then numbered ∷ [] else []))
        ≡ (if here then rules_of digits before ++ numbered.rule ∷ [] else rules_of digits before)
    by true = map-append (λ n. n.rule) (filter (λ n. bytes_eq digits n.number) before) (numbered ∷ [])
    by false = ap (map (λ n. n.rule)) (append-nil (filter (λ n. bytes_eq digits n.number) before))

some_rules-more : (rules : List Rule) (rule : Rule) → some_rules (rules ++ rule ∷ []) ≡ Some (rules ++ rule ∷ [])
some_rules-more [] rule = refl
some_rules-more (first ∷ rules) rule = refl

pub group-is : (digits : List ℕ) (before : List NumberedRule) (grouped : Grouped) → Groups before grouped → group_of digits grouped ≡ rules_of digits before
group-is digits before grouped holds = rw (holds.each digits) (by (rules_of digits before))
  where
    by : (rules : List Rule) → unwrap_or (some_rules rules) [] ≡ rules
    by [] = refl
    by (rule ∷ rules) = refl

-- the groups hold one more rule
pub holds-more : (before : List NumberedRule) (old new : Grouped) (numbered : NumberedRule) → Groups before old → Adds old numbered new → Groups (before ++ numbered ∷ []) new
holds-more before old new numbered holds adds = record {
  count = adds.count ∙ (ap (λ n. n + 1) holds.count ∙ sym (length-append before (numbered ∷ [])));
  each = λ digits. adds.each digits ∙ sym (ap some_rules (rules_of-more digits before numbered) ∙ by digits (bytes_eq digits numbered.number) refl);
  once = adds.once;
}
  where
    by : (digits : List ℕ) (here : Bool) → bytes_eq digits numbered.number ≡ here
        → some_rules (if here then rules_of digits before ++ numbered.rule ∷ [] else rules_of digits before)
        ≡ (if here then Some (group_of numbered.number old ++ numbered.rule ∷ []) else lookup (bytes_eq digits) old.groups)
    by digits true is =
        let same = same_digits digits numbered.number is in
        some_rules-more (rules_of digits before) numbered.rule ∙ ap (λ rules. Some (rules ++ numbered.rule ∷ [])) (rw same (sym (group-is numbered.number before old holds)))
    by digits false is = sym (holds.each digits)

-- what a value at a number adds to the groups
pub adds-value : (old new : Grouped) (numbered : NumberedRule) → new.count ≡ old.count + 1 → new.groups ≡ with_value old.groups numbered.number numbered.rule
    → IsStrictlySortedBy (slice_cmp nat_cmp) (keys_of new.groups) → Adds old numbered new
adds-value old new numbered count groups once = record {
  count = count;
  each = λ digits. rw groups (lookup-insert_entry digits numbered.number (group_of numbered.number old ++ numbered.rule ∷ []) old.groups);
  once = once;
}

-- and they stay within the limits where there was room
pub limits-value : (old new : Grouped) (numbered : NumberedRule) → new.count ≡ old.count + 1 → new.groups ≡ with_value old.groups numbered.number numbered.rule
    → length new.groups ≡ length old.groups + (if is_some (lookup (bytes_eq numbered.number) old.groups) then 0 else 1)
    → IsGrouped old → has_room old numbered.number ≡ true → is_decimal numbered.number ≡ true → IsGrouped new
limits-value old new numbered count groups size limits room decimal =
    let longer = length-insert_entry numbered.number (group_of numbered.number old ++ numbered.rule ∷ []) old.groups in
    let below : old.count < 100000 = grind (arith, nat_tests, room) in
    let short : few (group_of numbered.number old ++ numbered.rule ∷ []) ≡ true = rw (length-append (group_of numbered.number old) (numbered.rule ∷ [])) (grind (arith, nat_tests, room)) in
    record {
      rules = omega (arith, count);
      numbers = rw groups (omega (arith, count, limits.numbers, longer));
      others = λ digits.
          let found = ap (lookup (bytes_eq digits)) groups ∙ lookup-insert_entry digits numbered.number (group_of numbered.number old ++ numbered.rule ∷ []) old.groups in
          rw (found, count) (by digits (bytes_eq digits numbered.number) refl (lookup (bytes_eq numbered.number) old.groups) refl);
      of_number = rw groups (list_all-insert_entry (λ group. few group.1) numbered.number (group_of numbered.number old ++ numbered.rule ∷ []) old.groups short limits.of_number);
      decimal = rw groups (list_all-insert_entry (λ group. is_decimal group.0) numbered.number (group_of numbered.number old ++ numbered.rule ∷ []) old.groups decimal limits.decimal);
    }
  where
    own : (found : Option (List Rule)) → lookup (bytes_eq numbered.number) old.groups ≡ found
        → length (unwrap_or found []) + length new.groups ≤ old.count + 1
    own None is =
        let more : length new.groups ≡ length old.groups + 1 = rw is at size in
        omega (arith, more, limits.numbers)
    own (Some rules) is =
        let same : length new.groups ≡ length old.groups + 0 = rw is at size in
        let room_for : length rules + length old.groups ≤ old.count + 1 = rw is at (limits.others numbered.number) in
        omega (arith, same, room_for)

    by : (digits : List ℕ) (here : Bool) → bytes_eq digits numbered.number ≡ here → (found : Option (List Rule)) → lookup (bytes_eq numbered.number) old.groups ≡ found
        → length (unwrap_or (if here then Some (group_of numbered.number old ++ numbered.rule ∷ []) else lookup (bytes_eq digits) old.groups) []) + length new.groups ≤ old.count + 1 + 1
    by digits true equal found is =
        let before : length (group_of numbered.number old) + length new.groups ≤ old.count + 1 = rw (← is) at (own found is) in
        rw (length-append (group_of numbered.number old) (numbered.rule ∷ [])) (omega (arith, before))
    by digits false equal found is =
        let more : length new.groups ≤ length old.groups + 1 = rw (← groups) at (length-insert_entry numbered.number (group_of numbered.number old ++ numbered.rule ∷ []) old.groups) in
        omega (arith, more, limits.others digits)

-- the first group, and the others
pub few-parts : (group : List ℕ × List Rule) (groups : List (List ℕ × List Rule)) → list_all (λ each. few each.1) (group ∷ groups) ≡ true
    → (1 ≤ length group.1) × (length group.1 ≤ 1000) × (list_all (λ each. few each.1) groups ≡ true)
few-parts group groups all = by (nat_lt 0 (length group.1)) refl (nat_le (length group.1) 1000) refl all
  where
    by : (some : Bool) → nat_lt 0 (length group.1) ≡ some → (most : Bool) → nat_le (length group.1) 1000 ≡ most
        → ((some && most) && list_all (λ each. few each.1) groups) ≡ true → (1 ≤ length group.1) × (length group.1 ≤ 1000) × (list_all (λ each. few each.1) groups ≡ true)
    by true is_some true is_most rest = (grind (arith, nat_tests), grind (arith, nat_tests), rest)
    by true is_some false is_most rest = cc
    by false is_some most is_most rest = cc

-- while there are few more rules than numbers, no number has many
pub few-others : (digits : List ℕ) (grouped : Grouped) → IsGrouped grouped → grouped.count + 1 < length grouped.groups + 1000 → nat_lt (length (group_of digits grouped)) 1000 ≡ true
few-others digits grouped limits few =
    let all = limits.others digits in
    grind (arith, nat_tests, all, few)
