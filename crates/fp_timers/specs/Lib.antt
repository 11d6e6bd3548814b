pub mod Deadlines
pub mod Laws
pub mod Limits
pub mod Timers
