pub mod Answers
pub mod Call
pub mod Examples
pub mod Known
pub mod Traced
