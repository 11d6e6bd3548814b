use Rattle.std.proofs.Common.{◌≢◌, ℕ, ◌<◌, Some}
use Rattle.fp_adaptor.specs.Connections.{connection_at}
use Rattle.fp_adaptor.proofs.connections.Connections.is_here.Given as goal

-- no unit before has the connection
abbrev pub invariant-loop-unit : goal.invariant-loop-unit
invariant-loop-unit l = (before : ℕ) → before < l.unit → connection_at l.self.places.items before ≢ Some l.connection
