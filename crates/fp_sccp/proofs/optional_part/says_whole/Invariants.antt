use Rattle.std.proofs.Common.{Bool, ◌&&◌, length}
use Rattle.fp_sccp.specs.OptionalPart.{SaysWhole}
use Rattle.fp_sccp.proofs.optional_part.says_whole.Given as goal

-- what the rest says is what all says, with what was found so far; and if all says something, so does the rest
abbrev pub invariant-loop-rest : goal.invariant-loop-rest
invariant-loop-rest l = record {
  forward : (whole : Bool) → SaysWhole l.rest whole → SaysWhole l.octets (l.whole && whole);
  back : (whole : Bool) → SaysWhole l.octets whole → (other : Bool) × SaysWhole l.rest other;
}

abbrev pub decreases-loop-rest : goal.decreases-loop-rest
decreases-loop-rest l = length l.rest
