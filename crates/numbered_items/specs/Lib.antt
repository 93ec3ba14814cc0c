pub mod Index
pub mod Numbered
