pub mod Remarks
pub mod Reading
pub mod Laws
