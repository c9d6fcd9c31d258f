pub mod TlvLists
pub mod Scanning
pub mod Heads
pub mod Whole
pub mod InFront
pub mod Answers
pub mod Written
pub mod Refusals
