pub mod Faults
pub mod Stop
pub mod Stuck
