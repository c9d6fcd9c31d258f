pub mod Keeping
pub mod Living
