pub mod RecordMade
