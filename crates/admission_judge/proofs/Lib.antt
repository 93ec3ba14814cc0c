pub mod Verdicts
pub mod Events
