pub mod Given
pub mod Items
pub mod Read
pub mod Refused
pub mod Taken
