pub mod LineEnds
pub mod CodePages
pub mod Texts
pub mod Status
pub mod Streams
pub mod Ended
