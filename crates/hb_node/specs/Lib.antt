pub mod Inbox
pub mod Judging
pub mod Laws
pub mod Leads
pub mod Links
pub mod Phases
pub mod State
