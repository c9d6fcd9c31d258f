mod Along
pub mod Asking
mod Served
