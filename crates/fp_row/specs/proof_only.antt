-- What only proofs and the private invariants of types need: no contract of a public function says anything in these
-- words.
pub mod FrameList
pub mod IdentifierHash
pub mod Leads
pub mod Serving
