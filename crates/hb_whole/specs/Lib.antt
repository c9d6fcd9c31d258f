pub mod Acting
pub mod Judged
pub mod Queue
pub mod Sight
pub mod Stands
