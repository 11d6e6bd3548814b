use Rattle.std.proofs.Common.{◌≡◌, ℕ, ◌<◌, false, is_none}
use Rattle.fp_network.specs.Node.{connection_in}
use Rattle.fp_network.proofs.node.Node.free_place.Given as goal

-- the places so far are taken
abbrev pub invariant-loop-place : goal.invariant-loop-place
invariant-loop-place l = (before : ℕ) → before < l.place → is_none (connection_in l.self before) ≡ false
