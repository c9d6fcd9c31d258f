pub mod MadeLemmas
pub mod TunnelLemmas
