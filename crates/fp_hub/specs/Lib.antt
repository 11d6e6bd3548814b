pub mod Chain
pub mod Holds
pub mod Lines
pub mod Next
pub mod Shares
