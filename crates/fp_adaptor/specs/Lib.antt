pub mod Adaptor
pub mod Connections
pub mod Counted
pub mod Dialogues
pub mod History
pub mod Seen
pub mod Verdict
