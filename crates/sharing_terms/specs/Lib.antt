pub mod Marked
pub mod Marks
pub mod Ports
pub mod Sharing
pub mod Spelled
pub mod Terms
