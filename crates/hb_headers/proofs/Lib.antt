pub mod TargetLength
