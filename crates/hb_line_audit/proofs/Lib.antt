pub mod Handed
mod Noting
