pub mod Feeding
pub mod Lists
pub mod Parts
pub mod Reading
pub mod Taken
pub mod Told
