pub mod Begins
pub mod Follows
pub mod Forward
pub mod Keys
pub mod Lasts
pub mod Room
