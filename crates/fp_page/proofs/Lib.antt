pub mod Counts
pub mod Escapes
