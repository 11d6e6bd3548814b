use Rattle.std.proofs.Common.{◌≡◌, ◌≤◌, ◌-◌, length, take}
use Rattle.std.specs.Io.KnownBytes.{Appends}
use Rattle.fp_streams.proofs.write.write_all.Given as goal

abbrev pub invariant-loop-at : goal.invariant-loop-at
invariant-loop-at g l = record {
  within : l.at ≤ length l.octets;
  wrote : Appends (g.W.LinkWrite.contents l.fn.writer) (g.W.LinkWrite.contents l.writer) (take l.at l.octets);
  fine : g.W.LinkWrite.failures l.writer ≡ g.W.LinkWrite.failures l.fn.writer;
}

abbrev pub decreases-loop-at : goal.decreases-loop-at
decreases-loop-at g l = length l.octets - l.at
