pub mod Clear
pub mod Numbers
pub mod Orders
pub mod Payments
pub mod Records
pub mod Walks
