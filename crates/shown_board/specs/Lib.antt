pub mod Boarded
pub mod Replies
pub mod Taken
