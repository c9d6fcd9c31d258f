pub mod Framed
pub mod Message
pub mod Pieces
pub mod Reading
