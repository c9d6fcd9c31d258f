mod Powers
pub mod Takes
pub mod Messages
pub mod Varints
pub mod Spelled
pub mod Broken
pub mod Exact
pub mod Written
