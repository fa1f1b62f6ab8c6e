pub mod LineEnds
pub mod Streamed
