pub mod Explained
pub mod Lines
pub mod Unused
pub mod Unread
