pub mod LeftLemmas
mod Lent
pub mod TellsLemmas
