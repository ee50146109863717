pub mod Answer
pub mod ByTurns
pub mod Claims
