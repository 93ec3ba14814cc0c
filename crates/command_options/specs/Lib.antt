pub mod Lanes
pub mod Options
pub mod Seen
pub mod Values
