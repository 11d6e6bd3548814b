use Rattle.std.proofs.Common.{◌≡◌, length}
use Rattle.fp_network.specs.Changes.{draining}
use Rattle.fp_network.specs.Node.{LeavesLink}
use Rattle.fp_network.proofs.Changing.{Changing}
use Rattle.fp_network.proofs.node.Node.drain_places.Given as goal

-- the connections in the places so far drain, and nothing else changes
abbrev pub invariant-loop-place : goal.invariant-loop-place
invariant-loop-place l = record {
  so : Changing (draining (length l.fn.self.names.items) l.at) l.place l.fn.self l.self;
  link : LeavesLink l.fn.self l.self;
  adaptor : l.self.adaptor ≡ l.fn.self.adaptor;
  tally : l.self.tally ≡ l.fn.self.tally;
  news : l.self.news ≡ l.fn.self.news;
}
