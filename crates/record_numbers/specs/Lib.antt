pub mod RecordNumbers
pub mod RecordSound
pub mod RecordTidy
pub mod RecordClaims
