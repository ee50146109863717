pub mod Made
pub mod Put
pub mod Claims
pub mod ReadBack
