pub mod Rights
pub mod Wide
pub mod Castling
pub mod Rules
pub mod LegalList
pub mod Game
pub mod Laws
