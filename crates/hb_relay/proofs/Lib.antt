pub mod Acted
pub mod Coming
pub mod Meeting
pub mod Reached
pub mod Refused
pub mod StreamRefused
pub mod Streaming
