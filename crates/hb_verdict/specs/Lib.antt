pub mod Fields
pub mod Laws
pub mod Request
pub mod Verdict
