pub mod Before
pub mod Untouched
