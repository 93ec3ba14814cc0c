pub mod Eligible
pub mod Rank
pub mod Serving
pub mod Sorted
