pub mod FirstAdded
pub mod Reviewed
pub mod TablesReviewed
pub mod LineKinds
pub mod LineAdds
pub mod PartsWritten
