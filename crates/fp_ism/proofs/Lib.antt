pub mod Free
pub mod Least
pub mod Padding
pub mod Sound
