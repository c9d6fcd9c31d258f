pub mod LineAudit
pub mod Lines
pub mod Notes
pub mod Refused
pub mod Why
