pub mod Facts
pub mod Writing
pub mod Resume
pub mod Settings
pub mod Samples
pub mod Exactly
pub mod Overview
pub mod Calls
