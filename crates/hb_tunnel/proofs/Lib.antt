mod Ways
pub mod Whole
