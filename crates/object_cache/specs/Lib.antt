pub mod Change
pub mod Limits
pub mod Stays
