pub mod Frames
pub mod Nesting
pub mod Sending
pub mod Sizes
