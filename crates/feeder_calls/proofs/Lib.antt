pub mod FeederTyped
pub mod FedThrough
