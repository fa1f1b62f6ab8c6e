pub mod Faults
mod LeastMate
pub mod OnlyMoves
pub mod OneRow
mod OneMove
mod Promotions
mod HalfPoints
mod SideDecoded
mod OtherSide
mod ZugzwangCells
mod ThemeImages
pub mod AllFound
mod LongestFound
mod EachFound
mod OneOfTwo
