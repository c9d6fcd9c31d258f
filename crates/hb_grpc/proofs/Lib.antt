pub mod Fronts
pub mod OneList
pub mod Runs
pub mod Spelled
pub mod Steps
pub mod Stays
pub mod Whole
