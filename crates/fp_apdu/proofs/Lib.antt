pub mod Answering
pub mod Forests
pub mod Openings
pub mod Requests
pub mod Sizes
