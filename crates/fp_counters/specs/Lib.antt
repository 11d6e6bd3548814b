pub mod Contents
pub mod Counter
pub mod Counted
pub mod Ends
pub mod Frames
pub mod Histogram
pub mod Steps
