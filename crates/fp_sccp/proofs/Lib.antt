pub mod Messages
pub mod Parameters
pub mod Writing
