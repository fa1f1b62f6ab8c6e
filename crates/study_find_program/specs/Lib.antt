pub mod Status
pub mod Listed
pub mod Stopped
pub mod Ended
