pub mod Kept
pub mod ErrorsWritten
