pub mod AddressText
pub mod FieldsNoFloats
pub mod NoFloats
