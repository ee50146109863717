pub mod Record
pub mod End
