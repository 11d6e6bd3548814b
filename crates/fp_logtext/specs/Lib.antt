pub mod Logged
pub mod Waiting
