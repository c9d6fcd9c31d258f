mod Denying
pub mod Hearing
