pub mod Connection
pub mod Identity
pub mod Laws
pub mod Message
pub mod Received
pub mod Stream
pub mod StreamIdentifier
pub mod View
