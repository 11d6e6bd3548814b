pub mod ReadBack
pub mod Reading
pub mod Writing
