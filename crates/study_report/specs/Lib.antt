pub mod Lines
pub mod Remarks
pub mod Unread
pub mod Reported
pub mod Written
pub mod Outcome
pub mod Parts
