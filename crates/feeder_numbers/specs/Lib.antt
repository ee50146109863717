pub mod FeederNumbers
