pub mod Alone
pub mod Faults
pub mod Reach
pub mod Rows
pub mod Week
