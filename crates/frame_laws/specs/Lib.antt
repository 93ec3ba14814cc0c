pub mod Sums
pub mod Valid
pub mod Vectors
