use Rattle.std.proofs.Common.{◌≡◌, ℕ, ◌<◌, false}
use Rattle.fp_network.specs.Node.{connection_in, has_waiting_of}
use Rattle.fp_network.proofs.node.Node.is_quiet.Given as goal

-- nothing waits for those in the places so far
abbrev pub invariant-loop-place : goal.invariant-loop-place
invariant-loop-place l = (before : ℕ) → before < l.place → has_waiting_of (connection_in l.self before) ≡ false
