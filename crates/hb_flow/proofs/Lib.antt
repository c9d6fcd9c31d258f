pub mod Changes
pub mod Limits
pub mod Numbers
pub mod Same
pub mod Sending
pub mod Sizes
pub mod Taking
