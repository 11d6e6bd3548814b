pub mod Following
pub mod Found
pub mod Pairs
pub mod Places
pub mod Reading
