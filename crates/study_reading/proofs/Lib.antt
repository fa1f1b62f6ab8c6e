pub mod Powers
pub mod TokenByToken
pub mod NoneBehind
pub mod ReadWhole
