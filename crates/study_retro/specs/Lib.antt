pub mod Report
pub mod Predecessors
pub mod ClassGame
pub mod Still
pub mod RowMoves
pub mod RowLevels
pub mod RowBack
pub mod RowEscapes
