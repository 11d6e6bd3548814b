pub mod Asked
pub mod Laws
pub mod Line
pub mod Lines
pub mod Solo
pub mod Tied
pub mod proof_only
