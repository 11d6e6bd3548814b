pub mod Counts
pub mod Deliveries
pub mod LowerLaws
pub mod Placed
pub mod Readings
pub mod Unique
