pub mod Connection
pub mod Policy
pub mod Tally
