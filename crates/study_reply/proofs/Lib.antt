mod Examples
pub mod PathText
pub mod LineEnds
pub mod ReasonsFound
