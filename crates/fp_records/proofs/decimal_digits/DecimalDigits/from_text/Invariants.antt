use Rattle.std.proofs.Common.{◌≡◌, ◌-◌, ◌≤◌, drop, length, map, take}
use Rattle.std.specs.Char.{is_ascii_digit}
use Rattle.std.specs.List.{list_all}
use Rattle.fp_records.proofs.decimal_digits.DecimalDigits.from_text.Given as goal

abbrev pub invariant-loop-octet : goal.invariant-loop-octet
invariant-loop-octet l = record {
  fits : length l.text ≤ 15;
  count : length l.digits ≡ l.octet-index;
  so_far : l.digits ≡ map (λ octet. octet - 48) (take l.octet-index l.text);
  decimal : list_all is_ascii_digit (drop l.octet-index l.text) ≡ list_all is_ascii_digit l.text;
}
