use Rattle.std.proofs.Common.{[]}
use Rattle.fp_network.specs.Changes.{ticking}
use Rattle.fp_network.specs.Counting.{Counts}
use Rattle.fp_network.specs.Endings.{EndsClosed}
use Rattle.fp_network.specs.Node.{LeavesLink}
use Rattle.fp_network.specs.Receiving.{SkipsNone}
use Rattle.fp_network.proofs.Changing.{Changing}
use Rattle.fp_network.proofs.Reporting.{Reported}
use Rattle.fp_network.proofs.node.Node.tick.Given as goal

-- the connections in the places so far are to be closed if time is over for them
abbrev pub invariant-loop-place : goal.invariant-loop-place
invariant-loop-place l = record {
  so : Changing (ticking l.at) l.place l.fn.self l.self;
  ended : EndsClosed l.fn.self l.self;
  link : LeavesLink l.fn.self l.self;
  counted : Counts [] l.fn.self l.self;
  reported : Reported l.place l.fn.self l.self;
  skipped : SkipsNone l.fn.self l.self;
}
