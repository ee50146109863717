pub mod FeederCalls
pub mod FeederClaims
