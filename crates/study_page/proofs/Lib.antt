pub mod MadeRows
pub mod WholePage
pub mod GroupsFound
pub mod MainAmong
pub mod TreeWritten
pub mod OnePage
pub mod KeyMade
pub mod PlacesPlain
