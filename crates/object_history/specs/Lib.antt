pub mod AsShown
pub mod Cache
pub mod Kinds
pub mod LookBack
pub mod Observations
