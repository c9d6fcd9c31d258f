pub mod TraceLemmas
pub mod PieceLemmas
pub mod LifeLemmas
pub mod StandingLemmas
pub mod DoorLemmas
pub mod WaitLemmas
pub mod AllowedLemmas
pub mod HoldsLemmas
