use Rattle.std.proofs.Common.{◌≡◌, ◌++◌, drop}
use Rattle.std.specs.List.{enumerate_from, flat_map}
use Rattle.std.specs.Prelude.{is_some}
use Rattle.csv.specs.Records.{fields_of}
use Rattle.fp_records.specs.Digits.{some_digits_of}
use Rattle.fp_records.specs.declared.fault.Reason.TheVariants.{BadDestination}
use Rattle.fp_lint.specs.Faults.{destination_faults, unless_good}
use Rattle.fp_lint.specs.declared.fault.Part.TheVariants.{Field}
use Rattle.fp_lint.proofs.faults.destination_faults.Given as goal

abbrev pub invariant-loop-place : goal.invariant-loop-place
invariant-loop-place l =
    l.faults.items ++ flat_map (λ field. unless_good (is_some (some_digits_of field.1)) l.at (Field field.0) BadDestination) (enumerate_from l.place (drop l.place (fields_of l.row)))
    ≡ l.fn.faults.items ++ destination_faults l.at (fields_of l.row)
