pub mod RatePatterns
pub mod FormatLaws
pub mod WordLaws
pub mod Puts
pub mod Refused
