pub mod Births
pub mod Folding
