pub mod Faults
pub mod Found
pub mod Header
pub mod Laws
pub mod Reading
pub mod Room
pub mod Tlvs
pub mod Written
