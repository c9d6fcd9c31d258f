pub mod Keyed
pub mod Lending
pub mod Places
