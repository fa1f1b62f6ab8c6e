pub mod Tables
pub mod Keys
pub mod Cells
pub mod Faults
pub mod HeldSources
pub mod GivenPages
pub mod ProbedSources
pub mod Headers
pub mod KeptCells
pub mod PagedAnswers
pub mod ReadPages
mod LatestPage
