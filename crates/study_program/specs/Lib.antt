pub mod Status
pub mod Ended
pub mod Errors
