pub mod Joined
pub mod Lending
