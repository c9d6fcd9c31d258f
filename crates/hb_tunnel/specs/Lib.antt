pub mod Laws
pub mod Tunnel
pub mod Way
