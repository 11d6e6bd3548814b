use Rattle.std.proofs.Common.{◌≡◌, ◌+◌, ◌-◌, ◌^◌, drop}
use Rattle.fp_records.specs.Code.{code_of}
use Rattle.fp_records.proofs.number_key.code_in.Given as goal

-- the place of the last digit, and the code of the digits that are left
abbrev pub invariant-loop-digit : goal.invariant-loop-digit
invariant-loop-digit l = record {
  place : l.place ≡ 16 ^ (15 - l.digit-index);
  so_far : l.code + code_of (15 - l.digit-index) (drop l.digit-index l.digits) ≡ code_of 15 l.digits;
}
