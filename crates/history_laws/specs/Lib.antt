pub mod Objects
pub mod Histories
pub mod Seen
pub mod Further
