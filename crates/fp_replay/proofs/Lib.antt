pub mod Cutting
pub mod Heads
pub mod Hexadecimal
pub mod Keeping
pub mod Letters
pub mod LineTexts
mod OfRuns
mod OneLog
pub mod Lines
mod Retelling
mod Taken
