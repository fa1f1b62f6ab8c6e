pub mod ListWritten
