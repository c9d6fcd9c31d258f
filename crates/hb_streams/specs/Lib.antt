pub mod Answers
pub mod Calls
pub mod Laws
pub mod Moves
pub mod Numbers
pub mod Resets
pub mod Sides
pub mod States
