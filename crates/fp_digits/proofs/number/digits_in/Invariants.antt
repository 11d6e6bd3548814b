use Rattle.std.proofs.Common.{◌≡◌, ℕ, ◌*◌, List, length, take}
use Rattle.std.specs.List.{flat_map}
use Rattle.fp_digits.specs.Number.{halves}
use Rattle.fp_digits.proofs.number.digits_in.Given as goal

-- the digits are those of the octets so far
pub record ReadsOn (octets digits : List ℕ) (index : ℕ) : Type 0 where
  pub so_far : digits ≡ flat_map halves (take index octets)
  pub count : length digits ≡ 2 * index

abbrev pub invariant-loop-octet : goal.invariant-loop-octet
invariant-loop-octet l = ReadsOn l.octets l.digits l.octet-index
