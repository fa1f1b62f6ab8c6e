pub mod Errors
pub mod Ended
pub mod OldRemarks
