pub mod Film
pub mod Text
pub mod Audio
pub mod Settings
pub mod Calls
pub mod Digest
