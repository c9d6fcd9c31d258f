pub mod Assembly
pub mod Faults
pub mod Laws
pub mod Outcome
pub mod Room
