pub mod Table
pub mod Game
pub mod TableSet
pub mod Sound
pub mod Forced
pub mod Right
pub mod Class
