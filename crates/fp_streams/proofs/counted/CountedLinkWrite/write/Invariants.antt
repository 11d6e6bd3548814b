use Rattle.std.proofs.Common.{◌≡◌}
use Rattle.std.specs.Io.KnownBytes.{Keeps}
use Rattle.fp_streams.proofs.counted.CountedLinkWrite.write.Given as goal

abbrev pub invariant-loop : goal.invariant-loop
invariant-loop g l = record {
  kept : Keeps (g.W.Write.contents l.fn.self.device) (g.W.Write.contents l.self.device);
  failed : l.self.failed ≡ l.fn.self.failed;
}
