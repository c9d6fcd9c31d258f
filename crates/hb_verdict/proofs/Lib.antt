pub mod Asked
pub mod Dialled
