pub mod Slots
pub mod Number
pub mod Canonical
pub mod Index
pub mod Cells
pub mod Game
pub mod Size
pub mod Values
