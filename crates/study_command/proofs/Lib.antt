pub mod Printable
pub mod SpacesAtEnd
pub mod LineTaken
pub mod PathRead
pub mod LinesAgain
