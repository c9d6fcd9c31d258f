pub mod Alike
pub mod Behind
pub mod Changes
pub mod Entries
pub mod Rising
pub mod Stands
pub mod Undone
