-- What only proofs and the private invariants of types need: no contract of a public function says anything in these
-- words.
pub mod Answering
pub mod Serving
