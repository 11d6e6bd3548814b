pub mod Arrivals
pub mod Ended
pub mod Ending
