pub mod Classes
pub mod Kept
pub mod Laws
pub mod Lending
pub mod Starts
