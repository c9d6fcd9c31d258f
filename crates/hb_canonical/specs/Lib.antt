pub mod Fields
pub mod Gateway
pub mod Ports
pub mod Address
pub mod Authorization
