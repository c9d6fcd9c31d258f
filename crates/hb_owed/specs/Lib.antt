pub mod Debts
pub mod Dues
pub mod Frames
pub mod Laws
pub mod Moves
pub mod Paid
