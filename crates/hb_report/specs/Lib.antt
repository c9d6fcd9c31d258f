pub mod Link
pub mod Note
pub mod Report
pub mod Tallies
pub mod Tally
pub mod Total
