pub mod Streams
pub mod UnitNames
pub mod Histories
