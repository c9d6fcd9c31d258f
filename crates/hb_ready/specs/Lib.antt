pub mod Sight
pub mod Kept
pub mod Awake
pub mod Refused
pub mod Registry
pub mod Numbers
pub mod SightLaws
