pub mod Padding
pub mod Same
