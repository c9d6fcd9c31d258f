pub mod Varint
pub mod WireType
pub mod Field
pub mod Seen
pub mod Message
pub mod Spelling
pub mod Breaks
pub mod Writing
