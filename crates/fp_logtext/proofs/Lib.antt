pub mod Limits
pub mod LineOrders
pub mod MessageLens
pub mod OneAfterOther
pub mod StepsMade
