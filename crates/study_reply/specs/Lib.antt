pub mod Names
pub mod Reasons
pub mod Words
pub mod TableReply
pub mod Replied
