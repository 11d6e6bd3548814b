pub mod Contexts
pub mod Counts
pub mod Instant
pub mod Migrating
