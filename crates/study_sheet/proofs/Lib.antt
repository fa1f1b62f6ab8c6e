pub mod SheetWritten
pub mod NothingAsked
