use Rattle.std.proofs.Common.{◌≡◌, ◌+◌, ◌++◌, ◌≤◌, ◌≤ℤ◌, pos, neg_ℤ, length, map, true}
use Rattle.std.specs.Arc.{arc_value}
use Rattle.std.specs.Cmp.Lexicographic.{slice_cmp}
use Rattle.std.specs.List.{list_all}
use Rattle.std.specs.List.Sorted.{IsStrictlySortedBy}
use Rattle.std.specs.Map.{keys_of}
use Rattle.std.specs.Ordering.{nat_cmp}
use Rattle.fp_records.specs.Digits.{is_decimal}
use Rattle.fp_records.specs.Groups.{few, record_of_group}
use Rattle.fp_records.specs.Listed.{listed}
use Rattle.fp_records.proofs.Lookups.{seen}
use Rattle.fp_records.proofs.groups.Groups.into_records.Given as goal

abbrev pub invariant-loop-number : goal.invariant-loop-number
invariant-loop-number l = record {
  west : neg_ℤ (pos 720) ≤ℤ l.offset;
  east : l.offset ≤ℤ pos 840;
  so_far : seen (λ shared. arc_value shared) l.records.items ++ map (record_of_group l.offset l.closed.days) (listed l.number-iterator) ≡ map (record_of_group l.offset l.closed.days) l.fn.self.groups;
  once : IsStrictlySortedBy (slice_cmp nat_cmp) (keys_of (seen (λ shared. arc_value shared) l.records.items) ++ keys_of (listed l.number-iterator));
  short : list_all (λ group. few group.1) (listed l.number-iterator) ≡ true;
  decimal : list_all (λ group. is_decimal group.0) (listed l.number-iterator) ≡ true;
  kept : list_all (λ entry. is_decimal entry.0) (seen (λ shared. arc_value shared) l.records.items) ≡ true;
  count : length l.records.items + length l.number-iterator ≤ 100000;
}
