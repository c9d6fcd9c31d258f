pub mod Denial
pub mod DenialLaws
pub mod Reasons
