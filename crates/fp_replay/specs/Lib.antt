pub mod Format
pub mod Laws
pub mod OfRuns
pub mod Once
pub mod Replayed
pub mod Stopped
pub mod proof_only
