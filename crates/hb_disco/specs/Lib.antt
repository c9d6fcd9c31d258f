pub mod Kind
pub mod Response
pub mod Request
pub mod Written
