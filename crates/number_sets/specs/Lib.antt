pub mod Blocks
pub mod Counts
pub mod Least
pub mod RunLists
pub mod Runs
