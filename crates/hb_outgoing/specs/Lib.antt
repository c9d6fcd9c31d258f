pub mod Known
pub mod Laws
pub mod Queue
pub mod Selected
pub mod Streams
pub mod Waiting
pub mod Written
