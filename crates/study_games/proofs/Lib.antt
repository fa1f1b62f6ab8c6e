pub mod Figurines
pub mod Tails
pub mod Lexing
pub mod Fuel
pub mod Isolated
pub mod Within
pub mod Places
mod Examples
