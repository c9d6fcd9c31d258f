pub mod Boxed
pub mod Held
pub mod HeldBy
pub mod Laws
pub mod MemAudit
pub mod Refused
pub mod Tells
pub mod Told
