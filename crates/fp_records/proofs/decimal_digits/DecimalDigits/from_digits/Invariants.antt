use Rattle.std.proofs.Common.{◌≡◌, ◌≤◌, drop, length, nat_lt, take}
use Rattle.std.specs.List.{list_all}
use Rattle.fp_records.proofs.decimal_digits.DecimalDigits.from_digits.Given as goal

abbrev pub invariant-loop-digit : goal.invariant-loop-digit
invariant-loop-digit l = record {
  fits : length l.digits ≤ 15;
  count : length l.decimal ≡ l.digit-index;
  so_far : l.decimal ≡ take l.digit-index l.digits;
  decimal : list_all (λ digit. nat_lt digit 10) (drop l.digit-index l.digits) ≡ list_all (λ digit. nat_lt digit 10) l.digits;
}
