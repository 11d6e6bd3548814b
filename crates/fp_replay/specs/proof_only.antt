-- What only proofs and the private invariants of types need: no contract of a public function says anything in these
-- words.
pub mod Fields
pub mod Making
pub mod Reading
pub mod Taking
pub mod Writing
