use Rattle.std.proofs.Common.{◌≡◌, ◌+◌, ◌++◌, ◌≤◌, length}
use Rattle.fp_records.specs.Code.{AreDigits, digits_of_code}
use Rattle.fp_records.proofs.number_key.NumberKey.digits.Given as goal

-- the digits so far and those of what is left
abbrev pub invariant-loop-rest : goal.invariant-loop-rest
invariant-loop-rest l = record {
  so_far : l.digits ++ digits_of_code 15 l.rest ≡ l.fn.self;
  decimal : AreDigits 15 (digits_of_code 15 l.rest);
  room : length l.digits + length (digits_of_code 15 l.rest) ≤ 15;
}

abbrev pub decreases-loop-rest : goal.decreases-loop-rest
decreases-loop-rest l = length (digits_of_code 15 l.rest)
