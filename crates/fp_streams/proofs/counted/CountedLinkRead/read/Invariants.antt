use Rattle.std.proofs.Common.{◌≡◌}
use Rattle.std.specs.Io.KnownBytes.{Keeps}
use Rattle.fp_streams.proofs.counted.CountedLinkRead.read.Given as goal

abbrev pub invariant-loop : goal.invariant-loop
invariant-loop g l = record {
  kept : Keeps (g.R.Read.remaining l.fn.self.device) (g.R.Read.remaining l.self.device);
  failed : l.self.failed ≡ l.fn.self.failed;
}
