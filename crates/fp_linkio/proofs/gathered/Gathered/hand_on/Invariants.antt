use Rattle.std.proofs.Common.{◌≡◌, ◌≤◌, length, vec_capacity}
use Rattle.std.specs.Io.KnownBytes.{Keeps, append_known}
use Rattle.fp_linkio.proofs.gathered.Gathered.hand_on.Given as goal

-- what was written stays, and the device didn't fail
abbrev pub invariant-loop-self : goal.invariant-loop-self
invariant-loop-self g l = record {
  keeps : Keeps (append_known (g.W.LinkWrite.contents l.fn.device) l.fn.self) (append_known (g.W.LinkWrite.contents l.device) l.self-inside.octets.items);
  fine : g.W.LinkWrite.failures l.device ≡ g.W.LinkWrite.failures l.fn.device;
  within : length l.self-inside.octets.items ≤ 32768;
  room : 32768 ≤ vec_capacity l.self-inside.octets;
}

abbrev pub decreases-loop-self : goal.decreases-loop-self
decreases-loop-self g l = length l.self-inside.octets.items
