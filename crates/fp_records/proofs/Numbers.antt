-- The number of a record is decimal digits.
use Rattle.std.proofs.Common.{◌≡◌, ℕ, List, Bool, true, false, Option, Some, None, Result, Ok, Err, length, nat_lt, if◌then◌else◌, refl, ap, ◌∙◌}
use Rattle.csv.specs.Records.{field_at}
use Rattle.fp_records.specs.Digits.{digits_of, is_decimal, some_digits_of}
use Rattle.fp_records.specs.Fields.{numbered_in}
use Rattle.fp_records.specs.Steps.{and_then, field_by, number_in, or_else, rule_in}
use Rattle.fp_records.specs.declared.fault.Reason.{Reason}
use Rattle.fp_records.specs.declared.fault.Reason.TheVariants.{BadNumber}
use Rattle.fp_records.specs.declared.fields.NumberedRule.{NumberedRule}
use Rattle.fp_records.specs.declared.rule.Rule.{Rule}
use Rattle.fp_records.proofs.Digits.{digits_of-decimal}
use Rattle.fp_records.proofs.FieldTable.{steps-table}

some_digits_of-decimal : (text digits : List ℕ) → some_digits_of text ≡ Some digits → is_decimal digits ≡ true
some_digits_of-decimal text digits is = by (nat_lt 0 (length text)) is
  where
    by : (some : Bool) → (if some then digits_of text else None) ≡ Some digits → is_decimal digits ≡ true
    by true same = digits_of-decimal text digits same
    by false same = cc

number_in-decimal : (fields : List (List ℕ)) (digits : List ℕ) → number_in fields ≡ Ok digits → is_decimal digits ≡ true
number_in-decimal fields digits is = by (field_at fields 0) is
  where
    found : (text : List ℕ) (read : Option (List ℕ)) → some_digits_of text ≡ read → or_else read BadNumber ≡ Ok digits → is_decimal digits ≡ true
    found text None was same = cc
    found text (Some other) was same =
        let equal : other ≡ digits = cc same in
        some_digits_of-decimal text digits (rw equal at was)

    by : (field : Option (List ℕ)) → field_by some_digits_of BadNumber field ≡ Ok digits → is_decimal digits ≡ true
    by None same = cc
    by (Some text) same = found text (some_digits_of text) refl same

pub numbered-decimal : (fields : List (List ℕ)) (numbered : NumberedRule) → numbered_in fields ≡ Ok numbered → is_decimal numbered.number ≡ true
numbered-decimal fields numbered is = by (number_in fields) refl (steps-table fields ∙ is)
  where
    whole : (number : List ℕ) (rule : Result Rule Reason) → and_then rule (λ found. Ok (record { number = number; rule = found })) ≡ Ok numbered → number ≡ numbered.number
    whole number (Ok found) same =
        let equal : record { number = number; rule = found } ≡ numbered = cc same in
        ap (λ (n : NumberedRule). n.number) equal
    whole number (Err reason) same = cc

    by : (number : Result (List ℕ) Reason) → number_in fields ≡ number
        → and_then number (λ digits. and_then (rule_in fields) (λ rule. Ok (record { number = digits; rule = rule }))) ≡ Ok numbered → is_decimal numbered.number ≡ true
    by (Ok digits) was same = rw (whole digits (rule_in fields) same) at (number_in-decimal fields digits was)
    by (Err reason) was same = cc
