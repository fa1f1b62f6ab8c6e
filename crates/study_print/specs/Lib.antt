pub mod Entries
pub mod LeftOut
pub mod Pages
pub mod Refusals
pub mod Remarks
