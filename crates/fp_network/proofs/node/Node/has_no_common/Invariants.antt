use Rattle.std.proofs.Common.{◌≡◌, ℕ, ◌<◌, false, length}
use Rattle.fp_network.specs.Node.{connection_in, has_common_of}
use Rattle.fp_network.proofs.node.Node.has_no_common.Given as goal

-- none in the places so far has the common unit
abbrev pub invariant-loop-place : goal.invariant-loop-place
invariant-loop-place l =
    (before : ℕ) → before < l.place → has_common_of (length l.self.names.items) (connection_in l.self before) ≡ false
