pub mod Parts
pub mod Records
pub mod RecordBack
mod Labels
pub mod Tidied
