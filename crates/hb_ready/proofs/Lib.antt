pub mod Lists
pub mod Sights
