pub mod EntriesGrow
pub mod FileWritten
pub mod PageReported
pub mod FileNested
mod Refused
