use Rattle.std.proofs.Common.{◌≡◌, ◌≤◌, ◌-◌, length, take}
use Rattle.std.specs.Io.KnownBytes.{Appends}
use Rattle.fp_logtext.proofs.unwritten.write_front.Given as goal

-- the device took the octets before `at`, and didn't fail
abbrev pub invariant-loop-at : goal.invariant-loop-at
invariant-loop-at g l = record {
  within : l.at ≤ length l.text;
  wrote : Appends (g.L.LinkWrite.contents l.fn.device) (g.L.LinkWrite.contents l.device) (take l.at l.text);
  fine : g.L.LinkWrite.failures l.device ≡ g.L.LinkWrite.failures l.fn.device;
}

abbrev pub decreases-loop-at : goal.decreases-loop-at
decreases-loop-at g l = length l.text - l.at
