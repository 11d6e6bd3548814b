-- the names that all of them use
mod Names
mod Accounts
mod AtOnce
mod Born
mod Busy
pub mod Changes
pub mod Clocks
mod Closes
mod Counts
mod Downs
mod Extends
pub mod Fits
mod Fresh
mod Grows
mod Headline
pub mod Kept
mod Reading
mod LowerLaws
pub mod Posts
pub mod Queue
mod Sends
mod Serials
pub mod Sums
pub mod Tells
mod Ticks
pub mod Turns
pub mod Unsent
