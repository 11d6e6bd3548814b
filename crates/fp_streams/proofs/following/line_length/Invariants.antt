use Rattle.std.proofs.Common.{◌≤◌, ◌-◌, length, take}
use Rattle.fp_streams.specs.Line.{IsOneLine}
use Rattle.fp_streams.proofs.following.line_length.Given as goal

abbrev pub invariant-loop-count : goal.invariant-loop-count
invariant-loop-count l = record {
  within : l.count ≤ length l.octets;
  one_line : IsOneLine (take l.count l.octets);
}

abbrev pub decreases-loop-count : goal.decreases-loop-count
decreases-loop-count l = length l.octets - l.count
