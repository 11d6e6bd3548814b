use Rattle.std.proofs.Common.{◌≡◌, ◌<◌, ◌≤◌, length, take}
use Rattle.std.specs.List.{All}
use Rattle.fp_lint.proofs.reach.calling_of.Given as goal

abbrev pub invariant-loop-digit : goal.invariant-loop-digit
invariant-loop-digit l = record {
  so_far : l.calling ≡ take l.digit-index l.digits;
  few : length l.digits ≤ 15;
  decimal : All (λ digit. digit < 10) l.digits;
}
