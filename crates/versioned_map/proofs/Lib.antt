pub mod HeldLaws
pub mod Lengths
pub mod Unique
