pub mod Fact
pub mod Known
pub mod Told
pub mod Examples
