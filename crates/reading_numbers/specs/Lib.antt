pub mod ReadingNumbers
pub mod ReadingClaims
pub mod LayoutNumbers
pub mod ChanNumbers
