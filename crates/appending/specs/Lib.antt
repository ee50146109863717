pub mod Audio
pub mod Append
