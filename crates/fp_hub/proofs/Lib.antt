pub mod Chains
pub mod Serving
