pub mod CleanWords
pub mod MarkupGrows
