use Rattle.std.proofs.Common.{◌≡◌, drop}
use Rattle.std.specs.List.{list_all}
use Rattle.fp_records.proofs.days.all_set.Given as goal

abbrev pub invariant-loop-flag : goal.invariant-loop-flag
invariant-loop-flag l = list_all (λ flag. flag) (drop l.flag-index l.flags) ≡ list_all (λ flag. flag) l.flags
