pub mod Copies
pub mod Clear
pub mod StoredConfig
pub mod Configured
pub mod Settling
pub mod Staying
pub mod Explained
