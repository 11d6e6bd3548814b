pub mod Components
pub mod Elements
pub mod Listed
pub mod Numbers
pub mod Observed
pub mod Sent
