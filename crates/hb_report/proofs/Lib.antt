pub mod Changed
pub mod TallyLemmas
