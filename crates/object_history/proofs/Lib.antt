pub mod Cached
pub mod Force
pub mod Held
pub mod Seen
