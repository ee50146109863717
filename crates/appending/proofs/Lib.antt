pub mod Measured
pub mod Allowed
