mod HeldClasses
pub mod Found
pub mod Written
pub mod MainLines
pub mod RowFeatures
pub mod OneList
pub mod Said
pub mod Kin
pub mod Shown
pub mod PlacedImages
pub mod Selected
pub mod Keys
pub mod KeyImages
pub mod EachListed
pub mod Pieces
pub mod Stops
