pub mod Part
pub mod ProviderAbort
pub mod Reply
