pub mod Draining
pub mod Report
pub mod Tag
