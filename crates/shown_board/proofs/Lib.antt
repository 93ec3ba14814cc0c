pub mod Nexts
pub mod Pending
pub mod Replying
