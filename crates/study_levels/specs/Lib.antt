pub mod BestReplies
pub mod Due
pub mod Places
pub mod Propagation
pub mod Numbered
