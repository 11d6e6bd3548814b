use Rattle.std.proofs.Common.{◌≡◌, ℕ, ◌<◌, ◌≤◌, length}
use Rattle.fp_adaptor.specs.Connections.{connection_at, without}
use Rattle.fp_adaptor.proofs.connections.Connections.remove.Given as goal

-- the units before are without the connection, and the others are unchanged
abbrev pub invariant-loop-unit : goal.invariant-loop-unit
invariant-loop-unit l = record {
  before : (unit : ℕ) → unit < l.unit → connection_at l.self.places.items unit ≡ without l.connection (connection_at l.fn.self.places.items unit);
  others : (unit : ℕ) → l.unit ≤ unit → connection_at l.self.places.items unit ≡ connection_at l.fn.self.places.items unit;
  size : length l.self.places.items ≡ length l.fn.self.places.items;
}
