pub mod Index
pub mod Indexed
pub mod Kept
pub mod Named
