pub mod Theorems
pub mod Told
