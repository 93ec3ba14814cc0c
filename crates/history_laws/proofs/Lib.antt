pub mod Stores
pub mod Explained
pub mod Seen
pub mod Further
