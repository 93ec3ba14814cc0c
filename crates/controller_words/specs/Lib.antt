pub mod Reading
pub mod Seen
pub mod Words
