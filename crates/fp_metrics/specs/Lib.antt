pub mod Answer
pub mod Gauge
pub mod Number
pub mod Series
pub mod Text
pub mod Times
