pub mod Counts
pub mod Words
pub mod Taken
pub mod Devices
pub mod Paths
pub mod Pieces
