pub mod Bars
pub mod Escaped
pub mod History
pub mod Numbers
pub mod Pieces
pub mod Sent
pub mod Spans
pub mod Troubles
