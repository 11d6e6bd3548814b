pub mod Calls
pub mod Laws
pub mod Row
pub mod Rows
pub mod Turn
pub mod proof_only
