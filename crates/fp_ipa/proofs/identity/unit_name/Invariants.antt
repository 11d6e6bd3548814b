use Rattle.std.proofs.Common.{ℕ, List, length}
use Rattle.fp_ipa.specs.Identity.{SaysUnitName}
use Rattle.fp_ipa.proofs.identity.unit_name.Given as goal

-- the rest says just what all says
abbrev pub invariant-loop-rest : goal.invariant-loop-rest
invariant-loop-rest l = record {
  forward : (value : List ℕ) → SaysUnitName l.rest value → SaysUnitName l.contents value;
  back : (value : List ℕ) → SaysUnitName l.contents value → SaysUnitName l.rest value;
}

abbrev pub decreases-loop-rest : goal.decreases-loop-rest
decreases-loop-rest l = length l.rest
