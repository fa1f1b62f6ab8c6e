mod FirstMistake
mod VerdictLaws
pub mod OneFacts
mod FactsMade
