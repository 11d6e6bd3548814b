use Rattle.std.proofs.Common.{◌≡◌, ℕ, None, length}
use Rattle.fp_network.specs.Node.{connection_at}
use Rattle.fp_network.proofs.node.free_places.Given as goal

-- the places so far are free
abbrev pub invariant-loop-place : goal.invariant-loop-place
invariant-loop-place l = record {
  count : length l.places.items ≡ l._place;
  free : (place : ℕ) → connection_at l.places.items place ≡ None;
}
