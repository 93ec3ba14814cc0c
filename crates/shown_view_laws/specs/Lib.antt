pub mod Numbered
pub mod Tellable
