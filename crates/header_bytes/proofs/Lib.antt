pub mod Made
pub mod Parts
pub mod Grows
pub mod Within
pub mod ReadBack
