pub mod Paths
pub mod Parser
pub mod Lines
pub mod Laws
pub mod Kinds
pub mod Documents
