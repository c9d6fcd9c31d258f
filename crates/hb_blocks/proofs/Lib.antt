pub mod Cuts
pub mod Outcomes
