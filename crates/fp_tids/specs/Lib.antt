pub mod Identifiers
pub mod Laws
