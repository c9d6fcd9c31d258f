pub mod Entries
pub mod Laws
pub mod Numbered
pub mod Places
