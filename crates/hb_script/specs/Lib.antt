pub mod EntryText
pub mod Form
pub mod Script
pub mod Spelling
