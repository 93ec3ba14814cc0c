pub mod InForce
pub mod Kept
pub mod Tellable
