pub mod Lists
pub mod Class
pub mod Needs
