pub mod Lists
pub mod PagesWritten
pub mod BytesGiven
pub mod ReadAgain
pub mod TablesRead
pub mod StoppedAt
