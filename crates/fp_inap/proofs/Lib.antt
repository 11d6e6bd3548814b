pub mod Arguments
pub mod Sequences
