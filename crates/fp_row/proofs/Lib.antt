mod After
mod Led
mod Maps
mod Next
mod PuttingBack
mod Stepping
pub mod Fronts
pub mod Keeping
pub mod Served
pub mod Waiting
