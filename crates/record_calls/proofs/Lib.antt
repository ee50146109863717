pub mod Calls
pub mod Changed
mod Places
mod Samples
mod Finished
mod Headed
