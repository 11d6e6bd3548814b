use Rattle.std.proofs.Common.{◌≡◌, drop, nat_eq}
use Rattle.std.specs.Cmp.Lexicographic.{pointwise}
use Rattle.fp_records.proofs.call.all_same.Given as goal

-- what is left tells what all does
abbrev pub invariant-loop-place : goal.invariant-loop-place
invariant-loop-place l = pointwise nat_eq (drop l.place l.one) (drop l.place l.other) ≡ pointwise nat_eq l.one l.other
