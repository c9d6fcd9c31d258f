pub mod Answers
pub mod Flows
pub mod Laws
pub mod Moves
pub mod Sizes
pub mod Windows
