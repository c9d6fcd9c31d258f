pub mod Known
pub mod Places
pub mod Queues
pub mod Sent
pub mod Views
pub mod Walks
