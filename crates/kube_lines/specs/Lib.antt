pub mod Apart
pub mod OutputLines
pub mod ReplyLines
