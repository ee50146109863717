pub mod Number
pub mod List
pub mod Frame
pub mod Script
pub mod Tally
