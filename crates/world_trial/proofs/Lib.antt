pub mod ByKey
pub mod Continued
pub mod Counts
pub mod Few
pub mod Making
pub mod Numbered
pub mod Safe
pub mod Sets
