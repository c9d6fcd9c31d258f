pub mod Counting
pub mod Keeping
pub mod Once
pub mod Starting
