pub mod Called
pub mod Cause
pub mod Exact
pub mod NatureOfAddress
pub mod Number
