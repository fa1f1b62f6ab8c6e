pub mod Forest
pub mod Edits
pub mod Tree
pub mod Rows
pub mod Changes
pub mod Laws
pub mod Codes
