use Rattle.std.proofs.Common.{◌≡◌, ◌<◌, ◌≤◌, ◌+◌, ◌++◌, length, take, Some}
use Rattle.std.specs.Prelude.{slice_get}
use Rattle.fp_streams.specs.Line.{IsOneLine}
use Rattle.fp_streams.proofs.Feeding.{Feeding}
use Rattle.fp_streams.proofs.following.Following.feed.Given as goal

abbrev pub invariant-loop-self : goal.invariant-loop-self
invariant-loop-self g l = record {
  feeding : Feeding g.T.TakesLine.takes l.fn.self.most_octets l.fn.taker l.taker
      (l.fn.self.begun.items ++ l.octets) (l.self.begun.items ++ l.rest) l.fn.self.taken l.self.taken l.self.begun.items;
  most : l.self.most_octets ≡ l.fn.self.most_octets;
  within : l.count ≤ length l.rest;
  one_line : IsOneLine (take l.count l.rest);
  line_feed : l.count < length l.rest → slice_get l.rest l.count ≡ Some 10;
  counted : l.self.taken + length l.rest ≤ l.fn.self.taken + length l.octets;
}

abbrev pub decreases-loop-self : goal.decreases-loop-self
decreases-loop-self g l = length l.rest
