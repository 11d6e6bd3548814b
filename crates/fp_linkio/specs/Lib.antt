pub mod Calls
pub mod Receiving
pub mod Sending
