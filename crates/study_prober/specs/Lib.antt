pub mod WholeTables
pub mod Sources
pub mod PagedTables
pub mod HeaderAnswers
pub mod PageCache
pub mod FailingValues
pub mod CellPages
