pub mod Going
pub mod HandedOn
pub mod Sent
pub mod Told
