pub mod LeastClash
pub mod Enabled
pub mod Filled
pub mod Refused
pub mod TermLaws
